pub mod CoreView
