-- The words settle the reply: two replies that say the same are the same. Each `said` definition has an inverse, put together from those of its
-- answers and of its refusals.
-- Assumes nothing.
use mathlib.Core.Path.{◌≡◌, ap}
use lib.IntN.{ℤ}
use Rattle.std.specs.Prelude.{Result, Ok, Err}
use Rattle.os2_style.specs.declared.EmbeddingRights.{EmbeddingRights}
use Rattle.os2_style.specs.declared.StylePosition.{StylePosition}
use Rattle.os2_style.specs.declared.OpticalSizes.{OpticalSizes}
use Rattle.os2_answers.specs.declared.Answer.{Answer}
use Rattle.outcomes.specs.Outcomes.{Outcome, refused, answered}
use Rattle.os2_acceptance.specs.declared.Refusal.{Refusal}
use Rattle.os2_acceptance.proofs.Saying.{once, why_of, why_back}
use Rattle.os2_answers.specs.Values.{Said}
use Rattle.os2_answers.proofs.Saying.{answer_of, answer_back, rights_of, rights_back, style_of, style_back, optical_of, optical_back}
use Rattle.os2.specs.declared.AnyReply.{AnyReply}
use Rattle.os2.specs.declared.AnyReply.TheVariants as AnyReply·
use Rattle.os2.specs.Replies.{said_reply, said_rights_reply, said_style_reply, said_optical_reply, Kind, of_number, of_rights, of_style, of_optical, said_any_reply}

-- the reply that says something, from what its answers say
abbrev reply_of : {T : Type 0} → (Said → Answer T) → Outcome Said → Result (Answer T) Refusal
reply_of hear (answered s) = Ok (hear s)
reply_of hear (refused n c) = Err (why_of n c)

reply_back : (r : Result (Answer ℤ) Refusal) → reply_of answer_of (said_reply r) ≡ r
reply_back (Ok a) = ap Ok (answer_back a)
reply_back (Err r) = ap Err (why_back r)

rights_reply_back : (r : Result (Answer EmbeddingRights) Refusal) → reply_of rights_of (said_rights_reply r) ≡ r
rights_reply_back (Ok a) = ap Ok (rights_back a)
rights_reply_back (Err r) = ap Err (why_back r)

style_reply_back : (r : Result (Answer StylePosition) Refusal) → reply_of style_of (said_style_reply r) ≡ r
style_reply_back (Ok a) = ap Ok (style_back a)
style_reply_back (Err r) = ap Err (why_back r)

optical_reply_back : (r : Result (Answer OpticalSizes) Refusal) → reply_of optical_of (said_optical_reply r) ≡ r
optical_reply_back (Ok a) = ap Ok (optical_back a)
optical_reply_back (Err r) = ap Err (why_back r)

-- ---- each `said` definition tells the cases of its enum apart

pub reply_once : (r s : Result (Answer ℤ) Refusal) → said_reply r ≡ said_reply s → r ≡ s
reply_once = once said_reply (reply_of answer_of) reply_back

pub rights_once : (r s : Result (Answer EmbeddingRights) Refusal) → said_rights_reply r ≡ said_rights_reply s → r ≡ s
rights_once = once said_rights_reply (reply_of rights_of) rights_reply_back

pub style_once : (r s : Result (Answer StylePosition) Refusal) → said_style_reply r ≡ said_style_reply s → r ≡ s
style_once = once said_style_reply (reply_of style_of) style_reply_back

pub optical_once : (r s : Result (Answer OpticalSizes) Refusal) → said_optical_reply r ≡ said_optical_reply s → r ≡ s
optical_once = once said_optical_reply (reply_of optical_of) optical_reply_back

pub any_once : (r s : AnyReply) → said_any_reply r ≡ said_any_reply s → r ≡ s
any_once = once said_any_reply hear back
  where
    hear : Kind × Outcome Said → AnyReply
    hear (of_number, o) = AnyReply·.Number (reply_of answer_of o)
    hear (of_rights, o) = AnyReply·.Rights (reply_of rights_of o)
    hear (of_style, o) = AnyReply·.Style (reply_of style_of o)
    hear (of_optical, o) = AnyReply·.Optical (reply_of optical_of o)

    back : (r : AnyReply) → hear (said_any_reply r) ≡ r
    back (AnyReply·.Number r) = ap AnyReply·.Number (reply_back r)
    back (AnyReply·.Rights r) = ap AnyReply·.Rights (rights_reply_back r)
    back (AnyReply·.Style r) = ap AnyReply·.Style (style_reply_back r)
    back (AnyReply·.Optical r) = ap AnyReply·.Optical (optical_reply_back r)
