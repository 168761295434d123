-- Bytes stored in a row: laws of `sets`.
-- Assumes nothing.
use Prim.Native.Nat.{ℕ, zero, suc, ◌+◌, ◌-◌, ◌≤◌, ◌<◌}
use mathlib.Core.Path.{◌≡◌, refl, sym, ◌∙◌, ap}
use mathlib.Core.List.{List, [], ◌∷◌, ◌++◌}
use native.Mathlib.Nat.{add-zero}
use native.Mathlib.Omega.{arith}
use lib.ListN.{length, take, drop, get_or, set, length-take, length-drop}
use lib.Seq.{sets, sets-eq, length-sets, set_comm, drop-cons, drop-drop, take-add, take_all}
use borrow.Rule.Slice.PartMut.{put_mid}
use Rattle.std.proofs.lemmas.Slice.{put_mid-paste}

-- bytes after bytes
pub sets_append : (room : List ℕ) (at : ℕ) (xs ys : List ℕ) {n : ℕ} → length xs ≡ n → sets room at (xs ++ ys) ≡ sets (sets room at xs) (at + n) ys
sets_append room at [] ys {n} e = let z : at ≡ at + n = omega arith in ap (λ (m : ℕ). sets room m ys) z
sets_append room at (x ∷ xs) ys {n} e =
    let z : suc at + length xs ≡ at + n = omega arith in
    rw (← z) (sets_append (set room at x) (suc at) xs ys refl)

-- a byte before the others
set_sets : (room : List ℕ) (i at b : ℕ) (xs : List ℕ) → i < at → sets (set room i b) at xs ≡ set (sets room at xs) i b
set_sets room i at b [] l = refl
set_sets room i at b (x ∷ xs) l = rw (set_comm room i at b x (λ q. omega arith)) (set_sets (set room at x) i (suc at) b xs (omega arith))

-- two runs that do not meet
pub sets_comm : (room : List ℕ) (a b : ℕ) (xs ys : List ℕ) → a + length xs ≤ b → sets (sets room a xs) b ys ≡ sets (sets room b ys) a xs
sets_comm room a b [] ys l = refl
sets_comm room a b (x ∷ xs) ys l =
    sets_comm (set room a x) (suc a) b xs ys (omega arith) ∙ ap (λ (o : List ℕ). sets o (suc a) xs) (set_sets room a b x ys (omega arith))

-- ---- a block

-- k bytes from place start + j on
unfoldable pub bytes_at : List ℕ → ℕ → ℕ → ℕ → List ℕ
bytes_at s start j zero = []
bytes_at s start j (suc k) = get_or s (start + j) 0 ∷ bytes_at s start (suc j) k

bytes_are : (s : List ℕ) (start j k : ℕ) → start + j + k ≤ length s → bytes_at s start j k ≡ take k (drop (start + j) s)
unfolding bytes_at
bytes_are s start j zero h = refl
bytes_are s start j (suc k) h =
    let z : start + suc j ≡ suc (start + j) = omega arith in
    let d : drop (start + j) s ≡ get_or s (start + j) 0 ∷ drop (suc (start + j)) s = drop-cons s (start + j) 0 (omega arith) in
    ap (λ (r : List ℕ). get_or s (start + j) 0 ∷ r) (bytes_are s start (suc j) k (omega arith) ∙ ap (λ (m : ℕ). take k (drop m s)) z) ∙ sym (ap (take (suc k)) d)

-- stored from place at + j on
unfoldable pub stored_at : List ℕ → ℕ → ℕ → List ℕ → List ℕ
stored_at room at j [] = room
stored_at room at j (x ∷ xs) = stored_at (set room (at + j) x) at (suc j) xs

stored_are : (room : List ℕ) (at j : ℕ) (xs : List ℕ) → stored_at room at j xs ≡ sets room (at + j) xs
unfolding stored_at
stored_are room at j [] = refl
stored_are room at j (x ∷ xs) =
    let z : at + suc j ≡ suc (at + j) = omega arith in
    stored_are (set room (at + j) x) at (suc j) xs ∙ ap (λ (m : ℕ). sets (set room (at + j) x) m xs) z

pub block : (room : List ℕ) (at : ℕ) (s : List ℕ) (start k : ℕ) → start + k ≤ length s
    → stored_at room at 0 (bytes_at s start 0 k) ≡ sets room at (take k (drop start s))
block room at s start k h =
    stored_are room at 0 (bytes_at s start 0 k)
    ∙ rw (add-zero at) (ap (sets room at) (bytes_are s start 0 k (omega arith) ∙ ap (λ (m : ℕ). take k (drop m s)) (add-zero start)))

-- ---- block after block

module _ (held : List ℕ) (at : ℕ) (pool : List ℕ) (start n : ℕ) where
  -- after i bytes of n
  pub record Copied (room : List ℕ) (i : ℕ) : Type 0 where
    pub upto : i ≤ n
    pub long : length room ≡ length held
    pub holds : room ≡ sets held at (take i (drop start pool))

  pub copied_at : {room : List ℕ} {i j : ℕ} → Copied room i → i ≡ j → Copied room j
  copied_at {room} c e = rw (← e) c

  -- k more
  pub more_copied : start + n ≤ length pool → {room next : List ℕ} {i : ℕ} (k : ℕ) → i + k ≤ n → Copied room i
      → next ≡ sets room (at + i) (take k (drop (start + i) pool)) → Copied next (i + k)
  more_copied h {room} {next} {i} k l c e =
      record {
        upto = l;
        long = ap length e ∙ length-sets room (at + i) (take k (drop (start + i) pool)) ∙ c.long;
        holds =
            e ∙ ap (λ (r : List ℕ). sets r (at + i) (take k (drop (start + i) pool))) c.holds
            ∙ sym (sets_append held at (take i (drop start pool)) (take k (drop (start + i) pool)) first)
            ∙ ap (sets held at) (ap (λ (r : List ℕ). take i (drop start pool) ++ take k r) (sym (drop-drop i start pool)) ∙ sym (take-add i k (drop start pool)));
      }
    where
      first : length (take i (drop start pool)) ≡ i
      first = simp (length-take, length-drop) (omega arith)

  -- one more
  pub one_copied : start + n ≤ length pool → {room : List ℕ} {i : ℕ} → i < n → Copied room i → Copied (set room (at + i) (get_or pool (start + i) 0)) (i + 1)
  one_copied h {room} {i} l c =
      let d : drop (start + i) pool ≡ get_or pool (start + i) 0 ∷ drop (suc (start + i)) pool = drop-cons pool (start + i) 0 (omega arith) in
      more_copied h 1 (omega arith) c (ap (λ (r : List ℕ). sets room (at + i) (take 1 r)) (sym d))

  pub all_copied : {room : List ℕ} {i : ℕ} → Copied room i → n ≤ i → room ≡ sets held at (take n (drop start pool))
  all_copied {room} {i} c l = let z : i ≡ n = let u = c.upto in omega arith in c.holds ∙ ap (λ (m : ℕ). sets held at (take m (drop start pool))) z

-- ---- in two goes

pub both_copied : (held : List ℕ) (at : ℕ) (pool : List ℕ) (start n i k : ℕ) → start + n ≤ length pool → i + k ≡ n → (room next : List ℕ)
    → room ≡ sets held at (take i (drop start pool)) → next ≡ sets room (at + i) (take k (drop (start + i) pool)) → next ≡ sets held at (take n (drop start pool))
both_copied held at pool start n i k h l room next a b =
    let text = drop start pool in
    let first : length (take i (drop start pool)) ≡ i = simp (length-take, length-drop) (omega arith) in
    b ∙ ap (λ (r : List ℕ). sets r (at + i) (take k (drop (start + i) pool))) a
    ∙ sym (sets_append held at (take i text) (take k (drop (start + i) pool)) first)
    ∙ ap (λ (r : List ℕ). sets held at (take i text ++ take k r)) (sym (drop-drop i start pool))
    ∙ ap (sets held at) (sym (take-add i k text) ∙ ap (λ (m : ℕ). take m text) l)

-- ---- a part that was lent and came back

-- zs in the place of as many bytes
pub put_sets : (room : List ℕ) (at n : ℕ) {ys : List ℕ} (zs : List ℕ) → at + n ≤ length room → length zs ≡ n → ys ≡ zs → put_mid at (at + n - at) room ys ≡ sets room at zs
put_sets room at n {ys} zs h l e =
    put_mid-paste at (at + n - at) room ys zs n e (omega arith) (sym l)
    ∙ ap (λ (part : List ℕ). take at room ++ part ++ drop (at + n) room) (take_all n zs (omega arith))
    ∙ rw (← l) (sym (sets-eq zs room at (omega arith)))
