-- Bounds: how many settings a sound case has, how many rounds settling one takes and atoms it decides, how long its
-- tables are.
-- MinimalLanes: the minimal settings of a block.
-- Blocks: the walk, 64 settings at a time.
pub mod Bounds
pub mod MinimalLanes
pub mod Blocks
