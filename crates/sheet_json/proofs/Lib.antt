pub mod ColumnsBack
pub mod RowsBack
pub mod DatasetsBack
pub mod PlainCommands
pub mod Examples
