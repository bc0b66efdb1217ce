pub mod TablesView
pub mod View
pub mod Does
