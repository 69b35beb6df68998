mod Appending
mod Begun
mod Images
mod Opened
mod Recording
mod Texts
