pub mod Rectangle
pub mod Powers
pub mod Orders
pub mod Shape
pub mod Roots
pub mod Halves
pub mod Post
