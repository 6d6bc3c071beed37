pub mod Gauge
pub mod Known
