-- `put_answer` puts the text from the start of the caller's room on: what it lends to `put_behind` is that room, of which nothing waits.
use Rattle.report_pages.proofs.text.put_answer.Goals as goal

pub returns : goal.returns
returns c =
    let p = rw (c.over-text.ensures.room, c.over-text.ensures.at) at c.put_behind.ensures in
    rw (c.waiting.ensures.long, c.room.ensures) p
