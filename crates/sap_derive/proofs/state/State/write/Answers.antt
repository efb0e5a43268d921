use Rattle.std.proofs.Common.{◌≡◌, ℕ, List, Some, refl, sym, ap, ◌∙◌, subst}
use Rattle.std.specs.Prelude.{slice_get}
use Rattle.sap_share.specs.Shared.{trees_at}
use Rattle.sap_derive.specs.code.States.{IsStateOf}
use Rattle.sap_derive.proofs.Lined.{found-listed, found-by, state-gained, trees-append, cut-back}
use Rattle.sap_derive.proofs.state.State.write.Goals as goal

pub returns-in-Ok-clause-state : goal.returns-in-Ok-clause-state
returns-in-Ok-clause-state c =
    let s = c.args.self.now in
    let r = c.requires in
    let numbers = c.each_has_one_number.ensures in
    let rank = c.place_of-rank.result in
    let w = c.in-Ok.ensures.written in
    let listed = found-listed s.table s.entries s.terms s.brought s.given s.closure s.openers r.state numbers r.brought rank c.args.n c.place_of-rank.ensures r.listed c.in-Ok.lines w.0 w.2 in
    subst (λ (es : List ℕ). IsStateOf s.table es s.terms s.brought s.given s.closure s.openers) (sym w.1)
    (state-gained s.table s.entries s.terms s.brought s.given s.closure s.openers r.state numbers r.brought rank c.args.n c.place_of-rank.ensures r.listed w.0 listed)

pub returns-in-Ok-clause-found : goal.returns-in-Ok-clause-found
returns-in-Ok-clause-found c =
    let s = c.args.self.now in
    let r = c.requires in
    let numbers = c.each_has_one_number.ensures in
    let rank = c.place_of-rank.result in
    let w = c.in-Ok.ensures.written in
    let at = subst (λ (es : List ℕ). slice_get es c.place_of-entry.result ≡ Some c.args.n) w.1 c.place_of-entry.ensures in
    record {
      given = trees_at s.table.trees w.0;
      found = found-by s.table s.entries s.terms s.brought s.given s.closure s.openers r.state numbers r.brought rank c.args.n c.place_of-rank.ensures r.listed
          (record { lines = c.in-Ok.lines; entry = c.place_of-entry.result }) w.0 w.2 at;
      sig = refl;
      entries = ap (λ (es : List ℕ). trees_at s.table.trees es) w.1 ∙ trees-append s.table.trees s.entries w.0;
    }

pub returns-in-Err-clause-state : goal.returns-in-Err-clause-state
returns-in-Err-clause-state c =
    let s = c.args.self.now in
    let m = c.write.ensures.more in
    let back : c.cut.new.self ≡ s.entries = c.cut.ensures ∙ cut-back s.entries m.0 c.write.new.entries c.len-count.result m.1 c.len-count.ensures in
    subst (λ (es : List ℕ). IsStateOf s.table es s.terms s.brought s.given s.closure s.openers) (sym back) c.requires.state

pub returns-in-Err-clause-err : goal.returns-in-Err-clause-err
returns-in-Err-clause-err c =
    let s = c.args.self.now in
    let m = c.write.ensures.more in
    let back : c.cut.new.self ≡ s.entries = c.cut.ensures ∙ cut-back s.entries m.0 c.write.new.entries c.len-count.result m.1 c.len-count.ensures in
    λ i. record { sig = s.table.sig; entries = trees_at s.table.trees (back i) }
