pub mod Growing
pub mod Sorts
pub mod Turns
pub mod Naming
pub mod Listing
pub mod Shapes
pub mod Ends
pub mod TestForms
