-- Rows as the code has them: no public contract cites what stands below.
pub mod Views
