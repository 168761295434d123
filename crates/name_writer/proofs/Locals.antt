-- The locals of a walk over lent slices: of entries, of a pool and of a room; and a local that is a struct T.
--     entries_ty, pool_ty, room_ty     the MIR types of the parameters
--     ref_ty, lent_ty                  of the room as it is lent again: the reference, and the slice
--     work_ty, work_val                of a T, with its value in the machine
--     Known w                          the machine's value is that of w
--     told_val, told                   so is a value that a call returns, where an equation says which T it is
--     typed                            and it is of its type
--     owns                             what a T of plain fields owns, which is nothing, so that it can be had at any time
-- Assumes `Logic`.
use mathlib.Core.Path.{◌≡◌, ◌∙◌, ap, subst}
use mathlib.Core.List.{List, [], ◌∷◌}
use lib.Dec.{T as Holds}
use seplogic.Ra.Ura.{Ura}
use mir.Syntax.{Ty, named, erased, imm, mut, w8, ty_int, ty_ref}
use mir.Val.{Val, has_ty, WT}
use types.Logic.{Logic}
use types.Kit.{Item, Goal, Step, ‵}
use denote.Laws.{Is}
use denote.Memory.{pointee, lone}
use denote.Slice.{slice_ty}
use denote.Steps.{only, owned}
use denote.Struct.Declared.{Declared, fields, row}
use denote.Struct.Laws as LL
use denote.Struct.Laws.{Laws}
use denote.Struct.Struct.{Plains}
use Rattle.name_store.specs.contracts.Entry as E

abbrev pub entries_ty : Ty
entries_ty = slice_ty (ty_ref (named 0) imm (pointee (E.the_row).written))

abbrev pub pool_ty : Ty
pool_ty = slice_ty (ty_ref (named 1) imm (ty_int w8))

abbrev pub room_ty : Ty
room_ty = slice_ty (ty_ref (named 2) mut (ty_int w8))

abbrev pub ref_ty : Ty
ref_ty = ty_ref erased mut (ty_int w8)

abbrev pub lent_ty : Ty
lent_ty = slice_ty ref_ty

module _ (T : Declared) (laws : Laws T) where
  abbrev pub work_ty : Ty
  work_ty = lone (row T).mir

  abbrev pub work_val : T.D → Val
  work_val w = LL.val T laws w

  abbrev pub Known : T.D → Type 0
  Known w = Is (row T) w (work_val w ∷ [])

  module _ {r w : T.D} {v : Val} (is : Is (row T) r (v ∷ [])) (e : r ≡ w) where
    pub told_val : v ≡ work_val w
    told_val = ap only (LL.tells T laws r (v ∷ []) is) ∙ ap work_val e

    pub told : Known w
    told = subst Known e (subst (λ (us : List Val). Is (row T) r us) (LL.tells T laws r (v ∷ []) is) is)

  module _ {M : Type 1} {𝓤 : Ura M} (𝓛 : Logic 𝓤) where
    open 𝓛 use {H}

    pub typed : (r : T.D) {v : Val} → Is (row T) r (v ∷ []) → Holds (has_ty work_ty v) × WT v
    typed r is = ((LL.lawful T laws 𝓛).typed r _ is).0

    pub owns : Plains (fields T) → {Q : Type 0} {Γ : List (Item 𝓤)} {G : Goal 𝓤 H} → Q → (w : T.D) → Known w → Step Q 𝓛 (‵ ((row T).own_val w (work_val w ∷ [])) ∷ Γ) G Γ G
    owns plain t w is = owned t (row T) (Is (row T)) (LL.makes T plain 𝓛) w _ is
