pub mod DeclRead
pub mod EnvironmentsRead
pub mod FieldsRead
pub mod Read
pub mod RowsRead
pub mod Keys
pub mod Mark
