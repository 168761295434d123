-- The words of the writer's answer, and the room as the writer leaves it.
use Rattle.std.proofs.Common.{ap, ◌∙◌}
use Rattle.name_store.specs.Replies.{said_refusal}
use Rattle.os2_words.specs.Words.{written_words}
use Rattle.os2_words.proofs.Writers.{written_said}
use Rattle.gyalvindor.proofs.gv_name_write.Goals as goal

pub returns : goal.returns
returns c =
    let words = written_said said_refusal _ c.written_words.ensures.written c.written_words.ensures.refused in
    (words ∙ ap written_words c.write.ensures.answer.0, c.write.ensures.answer.1)
