mod Images
mod Parts
