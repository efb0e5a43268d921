-- What the code of this crate speaks of: how far a chart is drawn.
-- No theorem speaks of it.
pub mod Drawing
