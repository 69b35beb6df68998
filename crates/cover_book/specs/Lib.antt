pub mod Nodes
pub mod Adding
pub mod Waits
pub mod Steps
pub mod UnderWay
pub mod Servers
