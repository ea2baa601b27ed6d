-- The paper's words: the list of all layouts, the best of a list, the floor, and what the call promises.
pub mod PlaceLaws
pub mod BestLaws
pub mod FloorLaws
pub mod RefusedLaws
pub mod PanelLaws
pub mod WorkedLaws
-- Steps of the code.
pub mod RangeLaws
pub mod OdometerLaws
pub mod SearchLaws
pub mod ReplyLaws
