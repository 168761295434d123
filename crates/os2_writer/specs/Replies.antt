-- What the code answers in document 01's words and numbers, case by case.
use Rattle.std.specs.Prelude.{ℕ, Result, Ok, Err}
use Rattle.outcomes.specs.Outcomes.{Refusal, bare, carrying, Outcome, outcome_of}
use Rattle.os2_rules.specs.Tests.{said_rule}
use Rattle.os2_acceptance.specs.Replies as Reader·
use Rattle.os2_writer.specs.Rewriting.{Side, reader, writer}
use Rattle.os2_writer.specs.declared.WriteRefusal.{WriteRefusal}
use Rattle.os2_writer.specs.declared.WriteRefusal.TheVariants.{NoVersion, NoRoom, DoesNotFit, RuleBroken}
use Rattle.os2_writer.specs.declared.RewriteRefusal.{RewriteRefusal}
use Rattle.os2_writer.specs.declared.RewriteRefusal.TheVariants.{Unread, Unwritten}

-- a refusal's number, and what it carries
abbrev pub said_refusal : WriteRefusal → Refusal
said_refusal NoVersion = bare 4
said_refusal NoRoom = bare 5
said_refusal (DoesNotFit k) = carrying 8 k
said_refusal (RuleBroken r) = said_rule r

-- the reader's or the writer's
abbrev pub said_rewrite_refusal : RewriteRefusal → Refusal
said_rewrite_refusal (Unread r) = Reader·.said_refusal r
said_rewrite_refusal (Unwritten r) = said_refusal r

-- what came of writing
abbrev pub said_written : Result ℕ WriteRefusal → Outcome ℕ
said_written r = outcome_of (λ n. n) said_refusal r

-- what came of rewriting: a size, the reader's refusal or the writer's
abbrev pub said_rewritten : Result ℕ RewriteRefusal → Outcome ℕ
said_rewritten r = outcome_of (λ n. n) said_rewrite_refusal r

-- and which side says it
abbrev pub side_of : Result ℕ RewriteRefusal → Side
side_of (Ok n) = writer
side_of (Err (Unread r)) = reader
side_of (Err (Unwritten r)) = writer
