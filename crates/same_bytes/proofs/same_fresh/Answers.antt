use mathlib.Core.Path.{sym, ◌∙◌}
use mathlib.Core.Bool.{◌&&◌}
use lib.Dec.{eqb}
use lib.Pointwise.{pointwise}
use Rattle.same_bytes.proofs.Strings.{blocks_same}
use Rattle.same_bytes.proofs.same_fresh.Goals as goal

pub returns-then-eq : goal.returns-then-eq
returns-then-eq c =
    let a = c.as_chunks.ensures in
    let b = c.as_chunks-2.ensures in
    let blocks = sym c.if-eq.true ∙ c.eq.ensures ∙ (λ i. pointwise (pointwise eqb) (a.front i) (b.front i)) in
    let end = c.eq-then-eq.ensures ∙ (λ i. pointwise eqb (a.back i) (b.back i)) in
    (λ i. blocks i && end i) ∙ blocks_same 8 c.args.a.now c.args.b.now

pub returns-else-eq : goal.returns-else-eq
returns-else-eq c =
    let a = c.as_chunks.ensures in
    let b = c.as_chunks-2.ensures in
    let blocks = sym c.if-eq.false ∙ c.eq.ensures ∙ (λ i. pointwise (pointwise eqb) (a.front i) (b.front i)) in
    c.if-eq.false ∙ (λ i. blocks i && pointwise eqb (a.back i) (b.back i)) ∙ blocks_same 8 c.args.a.now c.args.b.now
