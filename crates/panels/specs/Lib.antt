-- The paper's definitions.
pub mod Layout
pub mod Panels
-- The shapes of what the paper promises.
pub mod Promised
-- What the code's struct says of them.
pub mod Reply
-- Steps of the code.
pub mod Steps
