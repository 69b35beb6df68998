pub mod Grammar
pub mod Written
pub mod Reports
pub mod Printed
pub mod Told
