-- The bytes of a stretch.
pub use Rattle.sap_stretches.specs.Stretches.{bytes_in}
