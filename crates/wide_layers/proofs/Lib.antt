mod Shown
mod Right
mod Lasts
