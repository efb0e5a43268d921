use Rattle.std.proofs.Common.{refl}
use Rattle.sap_terms.specs.Equations.{equations}
use Rattle.sap_share.specs.Shared.{trees_at}
use Rattle.sap_share.proofs.Sides.{no_left_side, is_first, is_second, is_symmetric, is_asymmetric, is_revealed, is_signing, is_revealing}
use Rattle.sap_share.proofs.table.Table.side.Goals as goal

pub returns-in-Some : goal.returns-in-Some
returns-in-Some c =
    let s = c.args.self.now in
    let h = c.in-Some.ensures.some in
    (h.0, is_first (equations s.sig) c.args.f.now (trees_at s.trees c.args.ks.now) _ _ h.2)

pub returns-in-Some-on_one : goal.returns-in-Some-on_one
returns-in-Some-on_one c =
    let s = c.args.self.now in
    let h = c.in-Some-on_one.ensures.some in
    (h.1, is_second (equations s.sig) c.args.f.now (trees_at s.trees c.args.ks.now) _ _ h.2)

pub returns-in-Some-opened : goal.returns-in-Some-opened
returns-in-Some-opened c =
    let s = c.args.self.now in
    let h = c.in-Some-opened.ensures.some in
    (h.0, is_symmetric (equations s.sig) c.args.f.now (trees_at s.trees c.args.ks.now) h.1 _ h.2.0 h.2.1)

pub returns-in-Some-opened_by_key : goal.returns-in-Some-opened_by_key
returns-in-Some-opened_by_key c =
    let s = c.args.self.now in
    let h = c.in-Some-opened_by_key.ensures.some in
    (h.0, is_asymmetric (equations s.sig) c.args.f.now (trees_at s.trees c.args.ks.now) h.1 _ h.2.0 h.2.1)

pub returns-in-Some-shown : goal.returns-in-Some-shown
returns-in-Some-shown c =
    let s = c.args.self.now in
    let h = c.in-Some-shown.ensures.some in
    (h.0, is_revealed (equations s.sig) c.args.f.now (trees_at s.trees c.args.ks.now) h.1 _ h.2.0 h.2.1)

pub returns-then-is_signed : goal.returns-then-is_signed
returns-then-is_signed c =
    let s = c.args.self.now in
    let h = c.if-is_signed.ensures.yes refl in
    is_signing (equations s.sig) c.args.f.now (trees_at s.trees c.args.ks.now) h.0 h.1.0 h.1.1 h.1.2

pub returns-then-is_signed-2 : goal.returns-then-is_signed-2
returns-then-is_signed-2 c =
    let s = c.args.self.now in
    let h = c.if-is_signed-2.ensures.yes refl in
    is_revealing (equations s.sig) c.args.f.now (trees_at s.trees c.args.ks.now) h.0 h.1.0 h.1.1 h.1.2

pub returns : goal.returns
returns c =
    let s = c.args.self.now in
    no_left_side (equations s.sig) c.args.f.now (trees_at s.trees c.args.ks.now)
    c.in_default.ensures.none c.in_default-on_one.ensures.none c.in_default-opened.ensures.none c.in_default-opened_by_key.ensures.none c.in_default-shown.ensures.none
    (c.if-is_signed.ensures.not refl) (c.if-is_signed-2.ensures.not refl)
