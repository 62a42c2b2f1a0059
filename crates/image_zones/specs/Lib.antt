pub mod ZoneMaps
