-- The two tests are the definition's, by the field's sign.
use Rattle.os2_store.proofs.Signs.{kept, top_fits, fits_signed, under_signed, fits_plain, under_plain}
use Rattle.os2_store.proofs.fits.Goals as goal

pub returns-then-x-geminus32768 : goal.returns-then-x-geminus32768
returns-then-x-geminus32768 c = rw (kept _ c.ranges.x)
    (fits_signed _ c.if-f.true (c.requires.signs c.if-f.true) _ (rw (kept _ c.ranges.x) at c.if-x-geminus32768.true))

pub returns-else-x-geminus32768 : goal.returns-else-x-geminus32768
returns-else-x-geminus32768 c = rw (kept _ c.ranges.x)
    (under_signed _ c.if-f.true (c.requires.signs c.if-f.true) _ (rw (kept _ c.ranges.x) at c.if-x-geminus32768.false))

pub top-requires : goal.top-requires
top-requires c = c.requires.wide

pub returns-then-x-ge0 : goal.returns-then-x-ge0
returns-then-x-ge0 c = rw (kept _ c.ranges.x, c.top.ensures, kept _ (top_fits _ c.requires.wide))
    (fits_plain _ c.if-f.false _ (rw (kept _ c.ranges.x) at c.if-x-ge0.true))

pub returns-else-x-ge0 : goal.returns-else-x-ge0
returns-else-x-ge0 c = rw (kept _ c.ranges.x) (under_plain _ c.if-f.false _ (rw (kept _ c.ranges.x) at c.if-x-ge0.false))
