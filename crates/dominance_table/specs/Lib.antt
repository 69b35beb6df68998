pub mod Groups
pub mod Entries
pub mod Dominator
pub use Rattle.dp_model.specs.Dp
pub use Rattle.dp_model.specs.Gaps
pub use Rattle.dp_model.specs.Lists
