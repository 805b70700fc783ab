pub mod DoublingAxes
