-- What document 02, Ask 5, settles of writing, in propositions: which refusal is given, in the order 30; at each entry 31, 18, 17 or 19, 32; 33; or which
-- length is answered.
use Rattle.std.specs.Prelude.{ℕ, suc, ◌≤◌, ◌<◌, ◌≡◌, List, length}
use Rattle.std.proofs.Math.Option.{none, some}
use Rattle.outcomes.specs.Outcomes.{Outcome, refused, answered}
use Rattle.name_layout.specs.Keys.{KeyBelow}
use Rattle.name_store.specs.declared.Entry.{Entry}
use Rattle.name_store.specs.Entries.{entry_at, key_for, text_end, offset_for, size_for}

-- document 01, 18: "In format 0 a language of 0x8000 or more is allowed only for platforms 240 to 255."
abbrev pub Allowed : Entry → Type 0
Allowed e = 32768 ≤ e.language → (240 ≤ e.platform) × (e.platform ≤ 255)

-- the key of entry i is above the one before it, if there is one
abbrev pub Above : List Entry → ℕ → Type 0
Above es i = (j : ℕ) → i ≡ suc j → KeyBelow (key_for (entry_at es j)) (key_for (entry_at es i))

-- none of 31, 18, 17, 19, 32 at entry i; p is the pool's length
pub record Sound (es : List Entry) (p i : ℕ) : Type 0 where
  pub inside : text_end (entry_at es i) ≤ p
  pub language : Allowed (entry_at es i)
  pub order : Above es i
  pub near : offset_for es i ≤ 65535

-- nor 30, nor any of them at the first n entries
pub record SoundBelow (es : List Entry) (p n : ℕ) : Type 0 where
  pub few : length es ≤ 5460
  pub sound : (i : ℕ) → i < n → Sound es p i

-- r is the room's length
pub data WriteSettled (es : List Entry) (p r : ℕ) : Outcome ℕ → Type 0 where
  too_many : 5460 < length es → WriteSettled es p r (refused 30 none)
  past_pool : {i : ℕ} → SoundBelow es p i → i < length es → p < text_end (entry_at es i) → WriteSettled es p r (refused 31 (some i))
  language_refused : {i : ℕ} → SoundBelow es p i → i < length es → text_end (entry_at es i) ≤ p → (Allowed (entry_at es i) → ⊥) →
      WriteSettled es p r (refused 18 (some i))
  key_below : {j : ℕ} → SoundBelow es p (suc j) → suc j < length es → text_end (entry_at es (suc j)) ≤ p → Allowed (entry_at es (suc j)) →
      KeyBelow (key_for (entry_at es (suc j))) (key_for (entry_at es j)) → WriteSettled es p r (refused 17 (some (suc j)))
  key_equal : {j : ℕ} → SoundBelow es p (suc j) → suc j < length es → text_end (entry_at es (suc j)) ≤ p → Allowed (entry_at es (suc j)) →
      key_for (entry_at es (suc j)) ≡ key_for (entry_at es j) → WriteSettled es p r (refused 19 (some (suc j)))
  too_far : {i : ℕ} → SoundBelow es p i → i < length es → text_end (entry_at es i) ≤ p → Allowed (entry_at es i) → Above es i →
      65535 < offset_for es i → WriteSettled es p r (refused 32 (some i))
  no_room : SoundBelow es p (length es) → r < size_for es → WriteSettled es p r (refused 33 none)
  is_written : SoundBelow es p (length es) → size_for es ≤ r → WriteSettled es p r (answered (size_for es))
