pub mod ZoneTables
