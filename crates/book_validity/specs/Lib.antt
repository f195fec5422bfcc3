pub mod BookValid
pub mod BookWalk
