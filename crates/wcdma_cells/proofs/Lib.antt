pub mod Place
pub mod Cell
