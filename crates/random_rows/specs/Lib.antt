pub mod Logic
