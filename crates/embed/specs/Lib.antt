-- In reading order.
-- Words: records and answers as words.
-- Operation: what the exported functions answer and leave in lent memory.
pub mod Words
pub mod Operation
