-- A lent slice in a walk, and the steps on one.
--     Lent R           a lent slice of R: its lifetime, the share of the lifetime's token, the reference, and that its list fits
--     token            that share of the token
--     value            the slice in the machine, where the list has n elements
--     shared           what a `&[T]` owns
--     held             what a `&mut [T]` owns, at a list and where the machine counts n elements
--     lent, waits      a `&mut [T]` that is lent again for the lifetime ν, under the name δ, and what its holder keeps meanwhile
--     copies           a `&[T]` is copied
--     lends, ends      a `&mut [T]` is lent again for a lifetime that is made for a call; that lifetime ends, and the slice comes back
-- Assumes `Logic`.
use mathlib.Core.Path.{◌≡◌, refl, sym, subst}
use Prim.Native.Nat.{ℕ}
use mathlib.Core.List.{List, [], ◌∷◌}
use lib.ListN.{length}
use seplogic.Ra.Ura.{Ura}
use base.Fraction.{full_share}
use mir.Syntax.{Lifetime}
use mir.Val.{Val}
use base.Fml.{Lft, GName, Share, Fml, flft}
use types.Logic.{Logic}
use types.Kit.{Item, Goal, Soaks, Seq, Step, step, ‵, ◌⊛◌, some, later, ◌$◌, move, use1, use2, use3, split, pick, rewrite, await}
use types.Tokens.{lft_new, lft_end}
use denote.RattleType.{RattleType, RowLaws}
use denote.Ref.{Bor, MutBor}
use denote.Slice.{slice_val, ShrSlice, MutSlice, Room, finally, shr_slice_copy}
use Rattle.name_writer.proofs.Again.{LentAgain, lends_again, comes_back}

pub record Lent (R : RattleType) : Type 0 where
  pub lft : Lft
  pub share : Share
  pub ref : MutBor (List R.Denot)
  pub fits : Room R (length ref.now)

module _ {R : RattleType} (L : Lent R) where
  abbrev pub token : Fml
  token = flft L.lft L.share

  abbrev pub value : ℕ → Val
  value n = slice_val L.ref.ref_ptr n

  abbrev pub named_at : GName → List R.Denot → MutBor (List R.Denot)
  named_at δ xs = record { ref_ptr = L.ref.ref_ptr; ghost_name = δ; now = xs }

  abbrev pub read : Bor (List R.Denot)
  read = record { ref_ptr = L.ref.ref_ptr; now = L.ref.now }

  abbrev pub shared : Lifetime → Fml
  shared ℓ = (ShrSlice ℓ L.lft R).own_val read (value (length L.ref.now) ∷ [])

  abbrev pub held : Lifetime → List R.Denot → ℕ → Fml
  held ℓ xs n = (MutSlice ℓ L.lft R).own_val (named_at L.ref.ghost_name xs) (value n ∷ [])

  abbrev pub lent : Lifetime → ℕ → GName → List R.Denot → Fml
  lent ℓ ν δ xs = (MutSlice ℓ (ν ∷ []) R).own_val (named_at δ xs) (value (length xs) ∷ [])

  abbrev pub waits : ℕ → GName → List R.Denot → Fml
  waits ν = LentAgain R L.lft (ν ∷ []) L.share L.ref.ghost_name L.ref.ref_ptr.0 L.ref.ref_ptr.1

  module _ {M : Type 1} {𝓤 : Ura M} {K : Type 0} (𝓛 : Logic 𝓤) {Γ : List (Item 𝓤)} {G : Goal 𝓤 𝓛.H} where
    pub copies : RowLaws R → K → (ℓ : Lifetime) → Step K 𝓛 (‵ (shared ℓ) ∷ ‵ (shared ℓ) ∷ Γ) G (‵ (shared ℓ) ∷ Γ) G
    copies laws t ℓ = step (λ s. use1 𝓛 (‵ (shared ℓ) ⊛ ‵ (shared ℓ)) ((shr_slice_copy 𝓛 ℓ L.lft R laws).twice read _) $ split t $ s)

    pub lends : K → Soaks G → (ℓ ℓ' : Lifetime) (xs : List R.Denot)
        → ((ν : ℕ) (δ : GName) → Seq K 𝓛 (‵ (lent ℓ' ν δ xs) ∷ ‵ (waits ν δ xs) ∷ ‵ (flft (ν ∷ []) full_share) ∷ Γ) G)
        → Seq K 𝓛 (‵ (held ℓ xs (length xs)) ∷ ‵ token ∷ Γ) G
    lends t z ℓ ℓ' xs k =
        lft_new t z (λ ν. move t (1 ∷ 2 ∷ []) $
        use2 𝓛 (later (some (λ (δ : GName). ‵ (lent ℓ' ν δ xs) ⊛ ‵ (waits ν δ xs))))
        (lends_again R L.lft (ν ∷ []) L.share L.ref.ghost_name L.ref.ref_ptr.0 L.ref.ref_ptr.1 𝓛 ℓ ℓ' xs) $
        await t z $ pick t (λ δ. split t $ k ν δ))

    -- zs is the last list that the callee says
    pub ends : K → Soaks G → (ℓ ℓ' : Lifetime) (xs : List R.Denot) → length xs ≡ length L.ref.now → (ν : ℕ) (δ : GName) {zs ws : List R.Denot}
        → length zs ≡ length xs → zs ≡ ws
        → Step K 𝓛 (‵ (held ℓ ws (length ws)) ∷ ‵ token ∷ Γ) G (‵ (flft (ν ∷ []) full_share) ∷ ‵ (waits ν δ xs) ∷ ‵ (finally R δ zs) ∷ Γ) G
    ends t z ℓ ℓ' xs as_long ν δ {zs} same is = step (λ s. lft_end t z $
        use3 𝓛 (later (‵ (held ℓ zs (length xs)) ⊛ ‵ token))
        (comes_back R L.lft (ν ∷ []) L.share L.ref.ghost_name L.ref.ref_ptr.0 L.ref.ref_ptr.1 𝓛 ℓ ℓ' xs δ zs
        (subst (Room R) (sym as_long) L.fits) same) $
        await t z $ split t $
        rewrite t 0 (λ (n : ℕ). ‵ (held ℓ zs n)) (sym same) refl $ rewrite t 0 (λ (us : List R.Denot). ‵ (held ℓ us (length us))) is refl $ s)
