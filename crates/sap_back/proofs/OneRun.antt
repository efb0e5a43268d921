-- A written run of rules leads to one state and has one full trace; and what is counted goes on where another stops.
use Rattle.std.proofs.Common.{◌≡◌, ◌+◌, ◌⊎◌, ℕ, zero, suc, Bool, true, false, nat_eq, List, [], ◌∷◌, ◌++◌, length, refl, sym, ap, subst, ◌∙◌, inl, inr, rules, append_assoc}
use Rattle.std.proofs.lemmas.List.{append-nil, same_from_push}
use Rattle.std.specs.Prelude.{All}
use Rattle.sap_terms.specs.Message.{IsMessageTrace}
use Rattle.sap_terms.specs.Signature.{Sig, HoldsBuiltins}
use Rattle.sap_terms.specs.Trace.{Trace}
use Rattle.sap_terms.specs.declared.fact.Fact.{Fact}
use Rattle.sap_formula.specs.Truth.{IsTrueOn}
use Rattle.sap_process.specs.Proc.{Proc}
use Rattle.sap_restrict.specs.Laws.{PrefixLaw}
use Rattle.sap_restrict.specs.Standard.{standard}
use Rattle.sap_restrict.specs.declared.which.Which.{Which}
use Rattle.sap_restrict.specs.declared.which.Which.TheVariants as kind
use Rattle.sap_rule.specs.Messages.{RunsReachMessages}
use Rattle.sap_rule.specs.RuleSteps.{RuleState}
use Rattle.sap_rule.specs.WellMade.{IsWellMade}
use Rattle.sap_runs.specs.Limits.{HasFewNodes}
use Rattle.sap_runs.specs.declared.rule_step.RStep.{RStep}
use Rattle.sap_steps.specs.Answers.{ReachedHaveOneAnswer, ReachedHaveOneOutcome, RefusalsAreOne}
use Rattle.sap_steps.specs.Faults.{IsLineFault}
use Rattle.sap_steps.specs.Lines.{IsLine}
use Rattle.sap_steps.specs.Runs.{IsLegalRun, LinesAreRuns}
use Rattle.sap_steps.specs.declared.fault.RFault.{RFault}
use Rattle.sap_steps.specs.declared.fault.RFault.TheVariants.{Mem}
use Rattle.sap_templates.specs.Templates.{rules_of}
use Rattle.sap_back.specs.Answers.{IsAdmittedRefusedOrBroken, HaveOneAnswer}
use Rattle.sap_back.specs.Converted.{IsAdmittedRun, IsFirstBroken, IsFirstRefusedOfRules}

-- none has an item at its end
none_pushed : {X : Type 0} (xs : List X) (x : X) → [] ≡ xs ++ x ∷ [] → ⊥
none_pushed [] x e = cc
none_pushed (w ∷ xs) x e = cc

none_cut : {X : Type 0} (xs ys : List X) (x : X) → [] ≡ xs ++ x ∷ ys → ⊥
none_cut [] ys x e = cc
none_cut (w ∷ xs) ys x e = cc

-- a list is empty, or has a last item
last_of : {X : Type 0} (ys : List X) → (ys ≡ []) ⊎ ((zs : List X) × (m : X) × (ys ≡ zs ++ m ∷ []))
last_of [] = inl refl
last_of (y ∷ ys) = elim (last_of ys) [ inl e ↦ inr ([], y, ap (λ z. y ∷ z) e) | inr l ↦ inr (y ∷ l.0, l.1, ap (λ z. y ∷ z) l.2) ]

-- of two cuts of one list, one is no later than the other
two_cuts : {X : Type 0} (b c : List X) (x y : X) (xs ys : List X) → b ++ x ∷ xs ≡ c ++ y ∷ ys → ((b ≡ c) × (x ≡ y)) ⊎ (((mid : List X) × (c ≡ b ++ x ∷ mid)) ⊎ ((mid : List X) × (b ≡ c ++ y ∷ mid)))
two_cuts [] [] x y xs ys e = inl (refl, (let h : x ≡ y = cc in h))
two_cuts [] (w ∷ c) x y xs ys e = inr (inl (c, (let h : x ≡ w = cc in ap (λ z. z ∷ c) (sym h))))
two_cuts (v ∷ b) [] x y xs ys e = inr (inr (b, (let h : v ≡ y = cc in ap (λ z. z ∷ b) h)))
two_cuts (v ∷ b) (w ∷ c) x y xs ys e =
    let head : v ≡ w = cc in
    let rest : b ++ x ∷ xs ≡ c ++ y ∷ ys = cc in
    elim (two_cuts b c x y xs ys rest) [
      | inl s ↦ inl ((λ i. head i ∷ s.0 i), s.1)
      | inr o ↦ elim o [ inl s ↦ inr (inl (s.0, λ i. (sym head) i ∷ s.1 i)) | inr s ↦ inr (inr (s.0, λ i. head i ∷ s.1 i)) ]
    ]

-- the place of a restriction in their order
abbrev place_of : Which → ℕ
place_of kind.Init = 0
place_of kind.Eq = 1
place_of kind.NotEq = 2
place_of kind.In = 3
place_of kind.NotIn = 4
place_of kind.Lock = 5
place_of kind.InEv = 6

abbrev at_place : ℕ → Which
at_place zero = kind.Init
at_place (suc zero) = kind.Eq
at_place (suc (suc zero)) = kind.NotEq
at_place (suc (suc (suc zero))) = kind.In
at_place (suc (suc (suc (suc zero)))) = kind.NotIn
at_place (suc (suc (suc (suc (suc zero))))) = kind.Lock
at_place _ = kind.InEv

placed_back : (w : Which) → at_place (place_of w) ≡ w
placed_back kind.Init = refl
placed_back kind.Eq = refl
placed_back kind.NotEq = refl
placed_back kind.In = refl
placed_back kind.NotIn = refl
placed_back kind.Lock = refl
placed_back kind.InEv = refl

placed_alike : (w : Which) → nat_eq (place_of w) (place_of w) ≡ true
placed_alike kind.Init = refl
placed_alike kind.Eq = refl
placed_alike kind.NotEq = refl
placed_alike kind.In = refl
placed_alike kind.NotIn = refl
placed_alike kind.Lock = refl
placed_alike kind.InEv = refl

-- restrictions that aren't different are one
one_which : (v w : Which) → (¬ (v ≡ w) → ⊥) → v ≡ w
one_which v w h = by (nat_eq (place_of v) (place_of w)) refl
  where
    same_number : (m n : ℕ) → nat_eq m n ≡ true → m ≡ n
    same_number m n e = search (rules, e)

    by : (b : Bool) → nat_eq (place_of v) (place_of w) ≡ b → v ≡ w
    by true e = sym (placed_back v) ∙ ap at_place (same_number (place_of v) (place_of w) e) ∙ placed_back w
    by false e = absurd (h (λ s. let k : nat_eq (place_of v) (place_of v) ≡ false = subst (λ z. nat_eq (place_of v) (place_of z) ≡ false) (sym s) e in let z : true ≡ false = sym (placed_alike v) ∙ k in cc))

module _ (prefix : PrefixLaw) (runs : LinesAreRuns HasFewNodes) (reached : RunsReachMessages) (answer : ReachedHaveOneAnswer) (outcome : ReachedHaveOneOutcome HasFewNodes) (causes : RefusalsAreOne) (g : Sig) (q : Proc) (hold : HoldsBuiltins g) (well : All (IsWellMade g) (rules_of q)) where
  -- lines that are legal lead to one state
  one_run : (lines other : List RStep) (s z : RuleState) (full tr : Trace) → lines ≡ other → IsLegalRun g (rules_of q) HasFewNodes lines s full → IsLegalRun g (rules_of q) HasFewNodes other z tr → (s ≡ z) × (full ≡ tr)
  one_run lines other s z full tr e IsLegalRun.starts IsLegalRun.starts = (refl, refl)
  one_run lines other s z full tr e IsLegalRun.starts (IsLegalRun.further {lines = ys} m shown r k) = absurd (none_pushed ys m e)
  one_run lines other s z full tr e (IsLegalRun.further {lines = xs} l acts p h) IsLegalRun.starts = absurd (none_pushed xs l (sym e))
  one_run lines other s z full tr e (IsLegalRun.further {lines = xs} {s = x} {full = before} l acts p h) (IsLegalRun.further {lines = ys} {s = y} {full = seen} m shown r k) =
      let same = same_from_push xs ys l m e in
      let first = one_run xs ys x y before seen same.0 p r in
      let last = outcome g (rules_of q) x s z before acts shown l hold well (runs g (rules_of q) xs x before p) h (subst (λ w. IsLine g (rules_of q) HasFewNodes w l shown z) (sym first.0) (subst (λ w. IsLine g (rules_of q) HasFewNodes y w shown z) (sym same.1) k)) in
      (last.1, λ i. first.1 i ++ last.0 i ∷ [])

  -- a legal run, cut at one of its lines
  record CutAt (before : List RStep) (line : RStep) (full : Trace) : Type 0 where
    state : RuleState
    seen : Trace
    legal : IsLegalRun g (rules_of q) HasFewNodes before state seen
    acts : List Fact
    next : RuleState
    possible : IsLine g (rules_of q) HasFewNodes state line acts next
    later : Trace
    whole : full ≡ (seen ++ acts ∷ []) ++ later

  cut_run : (lines before after : List RStep) (line : RStep) (s : RuleState) (full : Trace) → lines ≡ before ++ line ∷ after → IsLegalRun g (rules_of q) HasFewNodes lines s full → CutAt before line full
  cut_run lines before after line s full e IsLegalRun.starts = absurd (none_cut before after line e)
  cut_run lines before after line s full e (IsLegalRun.further {lines = xs} {s = x} {full = seen} l acts p h) = elim (last_of after) [
    | inl none ↦
        let same = same_from_push xs before l line (e ∙ ap (λ z. before ++ line ∷ z) none) in
        record {
          state = x;
          seen = seen;
          legal = subst (λ z. IsLegalRun g (rules_of q) HasFewNodes z x seen) same.0 p;
          acts = acts;
          next = s;
          possible = subst (λ z. IsLine g (rules_of q) HasFewNodes x z acts s) same.1 h;
          later = [];
          whole = sym (append-nil (seen ++ acts ∷ []));
        }
    | inr o ↦
        let same = same_from_push xs (before ++ line ∷ o.0) l o.1 (e ∙ ap (λ z. before ++ line ∷ z) o.2 ∙ sym (append_assoc before (line ∷ o.0) (o.1 ∷ []))) in
        let c = cut_run xs before o.0 line x seen same.0 p in
        record {
          state = c.state;
          seen = c.seen;
          legal = c.legal;
          acts = c.acts;
          next = c.next;
          possible = c.possible;
          later = c.later ++ acts ∷ [];
          whole = ap (λ z. z ++ acts ∷ []) c.whole ∙ append_assoc (c.seen ++ c.acts ∷ []) c.later (acts ∷ []);
        }
  ]

  -- a line at which a run stops, behind lines that count: it is refused, or a restriction is false behind it
  record Refused (s : RuleState) (line : RStep) : Type 0 where
    fault : RFault
    refused : IsLineFault g (rules_of q) s line fault
    cause : ¬ (fault ≡ Mem)

  record Breaks (s : RuleState) (full : Trace) (line : RStep) : Type 0 where
    acts : List Fact
    next : RuleState
    which : Which
    possible : IsLine g (rules_of q) HasFewNodes s line acts next
    broken : ¬ IsTrueOn g (standard which) (full ++ acts ∷ [])

  -- what is possible isn't refused
  not_both : (before : List RStep) (s z : RuleState) (full : Trace) (line : RStep) (acts : List Fact) → IsLegalRun g (rules_of q) HasFewNodes before s full → IsLine g (rules_of q) HasFewNodes s line acts z → Refused s line → ⊥
  not_both before s z full line acts legal is r = r.cause (answer g (rules_of q) s z full acts line r.fault hold well (runs g (rules_of q) before s full legal) is r.refused)

  -- lines that count don't stop at one of them
  goes_on : (lines before after : List RStep) (line : RStep) (s z : RuleState) (full tr : Trace) → lines ≡ before ++ line ∷ after → IsAdmittedRun g q lines s full → IsAdmittedRun g q before z tr → Refused z line ⊎ Breaks z tr line → ⊥
  goes_on lines before after line s z full tr e counted stops stop =
      let c = cut_run lines before after line s full e counted.legal in
      let same = one_run before before c.state z c.seen tr refl c.legal stops.legal in
      let possible = subst (λ w. IsLine g (rules_of q) HasFewNodes w line c.acts c.next) same.0 c.possible in
      let whole : full ≡ (tr ++ c.acts ∷ []) ++ c.later = c.whole ∙ ap (λ w. (w ++ c.acts ∷ []) ++ c.later) same.1 in
      let messages = (reached g (rules_of q) s full hold well (runs g (rules_of q) lines s full counted.legal)).0 in
      elim stop [
        | inl r ↦ not_both before z c.next tr line c.acts stops.legal possible r
        | inr b ↦
            let acts = (outcome g (rules_of q) z c.next b.next tr c.acts b.acts line hold well (runs g (rules_of q) before z tr stops.legal) possible b.possible).0 in
            let true_there = prefix b.which g (tr ++ c.acts ∷ []) c.later (subst (IsMessageTrace g) whole messages) (subst (IsTrueOn g (standard b.which)) whole (counted.admitted b.which)) in
            b.broken (subst (λ w. IsTrueOn g (standard b.which) (tr ++ w ∷ [])) acts true_there)
      ]

  -- two lines at which one run stops are one
  stops_once : (lines b c xs ys : List RStep) (x y : RStep) (s z : RuleState) (full tr : Trace) → lines ≡ b ++ x ∷ xs → lines ≡ c ++ y ∷ ys → IsAdmittedRun g q b s full → IsAdmittedRun g q c z tr → Refused s x ⊎ Breaks s full x → Refused z y ⊎ Breaks z tr y → (b ≡ c) × (x ≡ y)
  stops_once lines b c xs ys x y s z full tr e h counted counted_too stop stop_too = elim (two_cuts b c x y xs ys (sym e ∙ h)) [
    | inl same ↦ same
    | inr o ↦ elim o [
      | inl l ↦ absurd (goes_on c b l.0 x z s tr full l.1 counted_too counted stop)
      | inr l ↦ absurd (goes_on b c l.0 y s z full tr l.1 counted counted_too stop_too)
    ]
  ]

  of_refused : (lines : List RStep) (n : ℕ) (fault : RFault) → (r : IsFirstRefusedOfRules g q lines n fault) → Refused r.state r.line
  of_refused lines n fault r = record { fault = fault; refused = r.refused; cause = r.cause }

  -- what one line is refused for is one
  one_cause : (lines : List RStep) (n m : ℕ) (fault other : RFault) → (a : IsFirstRefusedOfRules g q lines n fault) → (b : IsFirstRefusedOfRules g q lines m other) → (a.before ≡ b.before) × (a.line ≡ b.line) → fault ≡ other
  one_cause lines n m fault other a b same =
      let states = one_run a.before b.before a.state b.state a.full b.full same.0 a.counted.legal b.counted.legal in
      let there = subst (λ w. IsLineFault g (rules_of q) w a.line other) (sym states.0) (subst (λ w. IsLineFault g (rules_of q) b.state w other) (sym same.1) b.refused) in
      elim (causes g (rules_of q) a.state a.line fault other well a.refused there) [
        | inl mem ↦ absurd (a.cause mem)
        | inr o ↦ elim o [ inl mem ↦ absurd (b.cause mem) | inr is ↦ is ]
      ]

  of_broken : (lines : List RStep) (n : ℕ) (which : Which) → (r : IsFirstBroken g q lines n which) → Breaks r.state r.full r.line
  of_broken lines n which r = record { acts = r.acts; next = r.next; which = which; possible = r.possible; broken = r.broken.this }

  pub one_answer : (rule_lines : List RStep) → IsAdmittedRefusedOrBroken g q rule_lines → HaveOneAnswer g q rule_lines
  one_answer lines some = record {
    some = some;
    one_run = λ s z full tr a b. one_run lines lines s z full tr refl a.legal b.legal;
    counted_or_refused = λ s full n fault a r. goes_on lines r.before r.after r.line s r.state full r.full r.cut a r.counted (inl (of_refused lines n fault r));
    counted_or_broken = λ s full n which a r. goes_on lines r.before r.after r.line s r.state full r.full r.cut a r.counted (inr (of_broken lines n which r));
    refused_or_broken = λ n m fault which a b.
        let same = stops_once lines a.before b.before a.after b.after a.line b.line a.state b.state a.full b.full a.cut b.cut a.counted b.counted (inl (of_refused lines n fault a)) (inr (of_broken lines m which b)) in
        let states = one_run a.before b.before a.state b.state a.full b.full same.0 a.counted.legal b.counted.legal in
        not_both a.before a.state b.next a.full a.line b.acts a.counted.legal (subst (λ w. IsLine g (rules_of q) HasFewNodes w a.line b.acts b.next) (sym states.0) (subst (λ w. IsLine g (rules_of q) HasFewNodes b.state w b.acts b.next) (sym same.1) b.possible)) (of_refused lines n fault a);
    one_refused = λ n m fault cause a b.
        let same = stops_once lines a.before b.before a.after b.after a.line b.line a.state b.state a.full b.full a.cut b.cut a.counted b.counted (inl (of_refused lines n fault a)) (inl (of_refused lines m cause b)) in
        (a.counts ∙ ap (λ w. length w + 1) same.0 ∙ sym b.counts, one_cause lines n m fault cause a b same);
    one_broken = λ n m v w a b.
        let same = stops_once lines a.before b.before a.after b.after a.line b.line a.state b.state a.full b.full a.cut b.cut a.counted b.counted (inr (of_broken lines n v a)) (inr (of_broken lines m w b)) in
        let states = one_run a.before b.before a.state b.state a.full b.full same.0 a.counted.legal b.counted.legal in
        let line = subst (λ r. IsLine g (rules_of q) HasFewNodes r a.line b.acts b.next) (sym states.0) (subst (λ r. IsLine g (rules_of q) HasFewNodes b.state r b.acts b.next) (sym same.1) b.possible) in
        let acts = (outcome g (rules_of q) a.state a.next b.next a.full a.acts b.acts a.line hold well (runs g (rules_of q) a.before a.state a.full a.counted.legal) a.possible line).0 in
        let trace : a.full ++ a.acts ∷ [] ≡ b.full ++ b.acts ∷ [] = λ i. states.1 i ++ acts i ∷ [] in (
          a.counts ∙ ap (λ r. length r + 1) same.0 ∙ sym b.counts,
          one_which v w (λ other. a.broken.this (subst (IsTrueOn g (standard v)) (sym trace) (b.broken.others v other))),
        );
  }
