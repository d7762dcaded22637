pub mod OpenedTables
