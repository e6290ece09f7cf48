-- In reading order.
-- Walk: one walk over all settings: bytes, minimal settings, rounds, verdict.
-- Counting: what is counted setting by setting.
-- Visited: where a walk stands before a setting.
-- Lane: what is known of the settings of lanes before they are visited.
pub mod Walk
pub mod Counting
pub mod Visited
pub mod Lane
