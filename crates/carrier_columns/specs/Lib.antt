pub mod Column
pub mod Down
