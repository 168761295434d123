-- A table that is written is read as the entries that it was written from, by any check and any lookup that are right.
-- Assumes nothing.
use Prim.Native.Nat.{ℕ, suc, ◌≤◌, ◌<◌}
use mathlib.Core.Path.{◌≡◌, refl, sym, ◌∙◌, ap}
use mathlib.Core.Logic.{inl}
use mathlib.Core.List.{List}
use native.Mathlib.Omega.{arith}
use lib.ListN.{length}
use Rattle.bigendian.specs.Numbers.{Bytes}
use Rattle.outcomes.specs.Outcomes.{Outcome, answered}
use Rattle.name_layout.specs.Layout.{count, platform, language, records_end, text_at, tag_count, tags_end, string_end, bytes_of}
use Rattle.name_layout.specs.Keys.{Key, key_of}
use Rattle.name_layout.proofs.Layouts.{format_0}
use Rattle.name_tests.specs.Languages.{LanguageAllowed}
use Rattle.name.specs.Acceptable.{Acceptable, AcceptedExactlyWhen}
use Rattle.name.specs.Acceptance.{check_of}
use Rattle.name.proofs.Theorems.{accepted_exactly_when}
use Rattle.name_search.specs.declared.Text.{Text}
use Rattle.name_search.specs.Searches.{HasKey, text_of}
use Rattle.name_search.proofs.Finds.{text_is, has_bytes}
use Rattle.name_lookup.specs.Answers.{lookup_of}
use Rattle.name_lookup.specs.Exactly.{LookupRight}
use Rattle.name_lookup.proofs.Theorems.{lookup_right}
use Rattle.name_store.specs.declared.Entry.{Entry}
use Rattle.name_store.specs.Entries.{entry_at, key_for}
use Rattle.name_store.specs.Tables.{TableOf}
use Rattle.name_store.specs.Writing.{write_of, room_after}
use Rattle.name_store.specs.WriteSettled.{Allowed, SoundBelow, WriteSettled}
use Rattle.name_store.specs.WriteSettled as settled
use Rattle.name_store.specs.Promises.{WriteRight, KeepsBytes}
use Rattle.name_store.proofs.Laid.{offset_ends}
use Rattle.name_store.proofs.Right.{bytes_take, write_right, keeps_bytes}
use Rattle.name_writer.specs.Reading.{ReadAs, ReadsBack}

-- ---- where the table of the entries has its numbers

module _ (pool : List ℕ) (es : List Entry) (t : List ℕ) (x : TableOf pool es t) where
  -- format 0 has no tags
  pub no_tags : (tag_count t ≡ 0) × (tags_end t ≡ records_end t)
  no_tags = let f = format_0 t x.plain in (f.0, omega (arith, f))

  pub listed : (i : ℕ) → i < count t → i < length es
  listed i l = let c = x.as_many in omega arith

  -- the string of record i ends within the table
  pub string_ends : (i : ℕ) → i < length es → string_end t (text_at i) ≤ length t
  string_ends i l = omega (arith, x.offsets i l, x.lengths i l, x.ends, offset_ends es (length es) i l)

  pub platform_is : (i : ℕ) → i < length es → platform t i ≡ (entry_at es i).platform
  unfolding key_of
  platform_is i l = ap (λ (k : Key). k.platform) (x.keys i l)

  pub language_is : (i : ℕ) → i < length es → language t i ≡ (entry_at es i).language
  unfolding key_of
  language_is i l = ap (λ (k : Key). k.language) (x.keys i l)

  -- the two ways to say which languages are allowed
  pub speaks : (i : ℕ) → i < length es → Allowed (entry_at es i) → LanguageAllowed t i
  speaks i l a = record {
    format0 = λ f h. let p = platform_is i l in let q = language_is i l in let b = a (omega arith) in (omega arith, omega arith);
    format1 = λ f h. absurd (let z = x.plain in omega arith);
  }

  pub spoken : (i : ℕ) → i < length es → LanguageAllowed t i → Allowed (entry_at es i)
  spoken i l a h = let p = platform_is i l in let q = language_is i l in let b = a.format0 x.plain (omega arith) in (omega arith, omega arith)

  -- ---- it is acceptable

  pub acceptable_table : SoundBelow es (length pool) (length es) → Acceptable t
  acceptable_table s =
      let g = no_tags in let c = x.as_many in let d = x.directly in let e = x.ends in
      record {
        long = omega arith;
        known = inl x.plain;
        records = omega arith;
        tags = omega arith;
        after = omega arith;
        within = omega arith;
        strings = λ i l. string_ends i (listed i l);
        tag_strings = λ i l. absurd (omega arith);
        rising = λ i l. let m = listed (suc i) l in rw (x.keys i (omega arith), x.keys (suc i) m) ((s.sound (suc i) m).order i refl);
        languages = λ i l. speaks i (listed i l) (s.sound i (listed i l)).language;
      }

  pub has_key : (i : ℕ) → i < length es → HasKey t (key_for (entry_at es i)) i
  has_key i l = record { inside = let c = x.as_many in omega arith; has = x.keys i l }

-- ---- what a right writer has answered

pub was_sound : {es : List Entry} {p r : ℕ} (n : ℕ) → WriteSettled es p r (answered n) → SoundBelow es p (length es)
was_sound {es} {p} {r} n w = by (answered n) w refl
  where
    by : (o : Outcome ℕ) → WriteSettled es p r o → o ≡ answered n → SoundBelow es p (length es)
    by _ (settled.too_many a) e = let z : ◌≡◌ {A = ℕ} 0 1 = cc in absurd (omega arith)
    by _ (settled.past_pool s h a) e = let z : ◌≡◌ {A = ℕ} 0 1 = cc in absurd (omega arith)
    by _ (settled.language_refused s h a b) e = let z : ◌≡◌ {A = ℕ} 0 1 = cc in absurd (omega arith)
    by _ (settled.key_below s h a b c) e = let z : ◌≡◌ {A = ℕ} 0 1 = cc in absurd (omega arith)
    by _ (settled.key_equal s h a b c) e = let z : ◌≡◌ {A = ℕ} 0 1 = cc in absurd (omega arith)
    by _ (settled.too_far s h a b c d) e = let z : ◌≡◌ {A = ℕ} 0 1 = cc in absurd (omega arith)
    by _ (settled.no_room s f) e = let z : ◌≡◌ {A = ℕ} 0 1 = cc in absurd (omega arith)
    by _ (settled.is_written s f) e = s

-- ---- read back

module _ (check : List ℕ → Outcome (Unit {0})) (accepts : AcceptedExactlyWhen check) (lookup : List ℕ → Key → Outcome Text) (looks : LookupRight lookup) where
  read_as : (pool : List ℕ) (es : List Entry) (t : List ℕ) → Bytes t → TableOf pool es t → SoundBelow es (length pool) (length es) → ReadAs check lookup pool es t
  read_as pool es t b x s = record {
    accepts = (accepts t b).1 a;
    finds = λ i l. record {
      text = text_of t i;
      found = (looks.found t b _ _).1 (a, (i, has_key pool es t x i l, (text_is t i _).0 refl));
      number = ((text_is t i _).0 refl).number;
      len = ((text_is t i _).0 refl).len ∙ x.lengths i l;
      bytes = (has_bytes t i refl a (has_key pool es t x i l).inside).2 ∙ ap (bytes_of t) ((text_is t i _).0 refl).number ∙ x.copied i l;
    };
    alone = λ k f. (looks.missing t b k).1 (a, λ i h. f i (listed pool es t x i h.inside) (sym (x.keys i (listed pool es t x i h.inside)) ∙ h.has));
  }
    where
      a : Acceptable t
      a = acceptable_table pool es t x s

  pub reads_back : (result : List Entry → ℕ → ℕ → Outcome ℕ) (room : List Entry → List ℕ → List ℕ → List ℕ) → WriteRight result room → KeepsBytes room
      → ReadsBack check lookup result room
  reads_back result room right keeps es pool r sixteen bp br n e =
      read_as pool es _ (bytes_take n _ (keeps es pool r sixteen bp br)) (right.written es pool r n e).0 (was_sound n ((right.settled es (length pool) (length r) _).0 e))

-- ours
pub written_reads_back : ReadsBack check_of lookup_of write_of room_after
written_reads_back = reads_back check_of accepted_exactly_when lookup_of lookup_right write_of room_after write_right keeps_bytes
