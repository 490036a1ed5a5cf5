pub mod AnyBelow
pub mod Cells
pub mod Masks
pub mod MaskLoop
pub mod Ends
pub mod RunEnd
pub mod Rows
pub mod PastEnd
