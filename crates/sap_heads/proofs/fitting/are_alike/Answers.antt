use Rattle.std.proofs.Common.{◌≡◌, ◌<◌, ℕ, Bool, List, Some, length, refl, sym, ap, ◌∙◌, arith}
use Rattle.std.specs.Prelude.{slice_get}
use Rattle.std.proofs.lemmas.Option.{same_Some, slice_get_read}
use Rattle.sap_sides.specs.declared.shared_fact.SharedFact.{SharedFact}
use Rattle.sap_heads.specs.code.Rules.{shape_of, shapes_of, shapes_shared}
use Rattle.sap_heads.proofs.Counted.{same_further, get_map}
use Rattle.sap_heads.proofs.fitting.are_alike.Goals as goal

abbrev shape : SharedFact → List ℕ × (Bool × ℕ)
shape s = (s.name, (s.persistent, length s.args))

pub returns-then-not-is_alike : goal.returns-then-not-is_alike
returns-then-not-is_alike c = (
  λ h. cc,
  λ e.
      let f = c.at.result.now in
      let s = c.index-ss-k.result in
      let inside : c.loop-k.k < length c.args.ss.now = omega (arith, c.loop-k-test.true, c.len-k-end.ensures, c.len.ensures, c.if-len-ss.false) in
      let there = slice_get_read c.args.ss.now (length c.args.ss.now) c.loop-k.k s refl inside c.index-ss-k.is in
      let at : Some (shape_of f) ≡ Some (shape s) = sym (get_map shape_of c.args.fs.now c.loop-k.k f c.at.ensures) ∙ ap (λ xs. slice_get xs c.loop-k.k) e ∙ get_map shape c.args.ss.now c.loop-k.k s there in
      let same = c.is_alike.ensures.1 (same_Some (shape_of f) (shape s) at) in
      cc (same, c.if-not-is_alike.true),
)

pub loop-k-preserved : goal.loop-k-preserved
loop-k-preserved c =
    let f = c.at.result.now in
    let s = c.index-ss-k.result in
    let inside : c.loop-k.k < length c.args.ss.now = omega (arith, c.loop-k-test.true, c.len-k-end.ensures, c.len.ensures, c.if-len-ss.false) in
    let there = slice_get_read c.args.ss.now (length c.args.ss.now) c.loop-k.k s refl inside c.index-ss-k.is in
    same_further (shapes_of c.args.fs.now) (shapes_shared c.args.ss.now) c.loop-k.k (shape_of f) (shape s) c.loop-k.invariant (get_map shape_of c.args.fs.now c.loop-k.k f c.at.ensures) (get_map shape c.args.ss.now c.loop-k.k s there) (c.is_alike.ensures.0 c.if-not-is_alike.false)
