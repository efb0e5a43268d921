-- Short rules follow rules, and rules short rules.
use Rattle.std.proofs.Common.{◌≡◌, ℕ, ◌+◌, ◌<◌, List, [], ◌∷◌, ◌++◌, Some, Bool, false, cond, refl, sym, ap, subst, ◌∙◌, arith, ◌⊎◌, inl, inr, slice_get}
use Rattle.std.proofs.lemmas.List.{append-nil}
use Rattle.std.proofs.Common.{append_assoc}
use Rattle.std.specs.Prelude.{All, Contains}
use Rattle.std.specs.List.{flat_map}
use Rattle.std.proofs.lemmas.List.Elements.{All-nil, All-cons}
use Rattle.sap_terms.specs.Signature.{Sig}
use Rattle.sap_terms.specs.Equations.{Equations, equations}
use Rattle.sap_terms.specs.Normal.{IsNormal}
use Rattle.sap_terms.specs.Tree.{Tree, public, fresh}
use Rattle.sap_terms.specs.AdversaryFacts.{in_fact, out_fact, fr_fact}
use Rattle.sap_terms.specs.Choice.{Choice}
use Rattle.sap_terms.specs.declared.fact.Fact.{Fact}
use Rattle.sap_rule.specs.declared.rule.Rule.{Rule}
use Rattle.sap_terms.specs.Piles.{Pile, Takes, nothing, one, used, adds}
use Rattle.sap_rule.specs.RuleSteps.{RuleState, empty_state, makes, gains, leaves, IsUse, RuleStep, makes_name, learns, owns, knows_public, applies, gives, uses, RuleRun, starts, further}
use Rattle.sap_terms.specs.Trace.{Trace, shown}
use Rattle.sap_formula.specs.Filled.{filled}
use Rattle.sap_translate.specs.relation.Totals.{total}
use Rattle.sap_gen.specs.Carried.{count, counts, count_after, AreAlike, Stays, IsSilent, Carries, AreCarried, IsMatchedBy, SettleTo, done, step, AreExpanded, AreNormalFacts, HoldsNormal, IsFilledTrace, CarriedRulesShowTheSame}
use Rattle.sap_gen.proofs.Weights.{adds_total, linear_spent}
use Rattle.sap_translate.proofs.Shared.Totals.{total-append, total_found}
use Rattle.sap_translate.proofs.Shared.Takings.{takes_total}
use Rattle.sap_translate.specs.relation.Names.{same_fact}
use Rattle.sap_translate.proofs.Shared.Facts.{same_fact_self}
use Rattle.sap_gen.proofs.Taking.{itself, Matches, take_too, take_one, Live, found_live, used_live}

-- what is taken from normal facts is normal
taken_normal : (e : Equations) {xs rest : Pile} {ks : List ℕ} {fs : List Fact} → ((k : ℕ) (f : Fact) → slice_get xs k ≡ Some (Some f) → All (IsNormal e) f.args) → Takes xs ks fs rest → AreNormalFacts e fs
taken_normal e n nothing = All-nil (λ (f : Fact). All (IsNormal e) f.args)
taken_normal e n (one {facts = xs} {k = k} {f = f} {fs = fs} h t) =
    All-cons (λ (f : Fact). All (IsNormal e) f.args) f fs (n k f h) (taken_normal e (λ j x i. n j x (used_live xs k f j x i)) t)

-- a rule was used
record Used (g : Sig) (rules : List Rule) (s : RuleState) (acts : List Fact) (s' : RuleState) : Type 0 where
  rest : Pile
  rule : Rule
  numbers : List ℕ
  choice : Choice
  left : List Fact
  right : List Fact
  among : Contains rules rule
  takes : Takes s.facts numbers left rest
  use_is : IsUse g rule choice left acts right
  is : s' ≡ leaves s (adds rest right)

-- the adversary did something, which it can do from the other state too, whatever the rules
record Mirrored (g : Sig) (after : Fact → List Fact) (z : RuleState) (acts : List Fact) (s' : RuleState) : Type 0 where
  next : RuleState
  follows : IsMatchedBy after s' next
  done_too : (others : List Rule) → RuleStep g others z acts next

-- what the adversary makes and takes stays as it is
record Plain (after : Fact → List Fact) : Type 0 where
  in_stays : (t : Tree) → Stays after (in_fact t)
  out_stays : (t : Tree) → Stays after (out_fact t)
  fr_stays : (n : ℕ) → Stays after (fr_fact n)

module _ (after : Fact → List Fact) where
  -- one fact that stays is added on both sides
  adds_one : (xs ys : Pile) (f : Fact) → Matches after xs ys → Stays after f → Matches after (adds xs (f ∷ [])) (adds ys (f ∷ []))
  adds_one xs ys f m s test =
      let a = adds_total after test xs (f ∷ []) in
      let b = adds_total itself test ys (f ∷ []) in
      let c : counts test (flat_map after (f ∷ [])) ≡ counts test (flat_map itself (f ∷ [])) = ap (λ (fs : List Fact). counts test (fs ++ [])) s in
      let equal = m test in
      omega arith

  -- what is added on both sides will be alike
  adds_alike : (xs ys : Pile) (fs hs : List Fact) → Matches after xs ys → AreAlike (flat_map after fs) (flat_map itself hs) → Matches after (adds xs fs) (adds ys hs)
  adds_alike xs ys fs hs m s test =
      let a = adds_total after test xs fs in
      let b = adds_total itself test ys hs in
      let c = s test in
      let equal = m test in
      omega arith

  -- behind a silent rule the facts will be what they would have been
  silent_matches : {xs rest : Pile} {ks : List ℕ} {left : List Fact} (ys : Pile) (right : List Fact) → Matches after xs ys → All (λ (f : Fact). f.persistent ≡ false) left
      → AreAlike (flat_map after left) (flat_map after right) → Takes xs ks left rest → Matches after (adds rest right) ys
  silent_matches {xs} {rest} {ks} {left} ys right m l s t test =
      let a = adds_total after test rest right in
      let b = takes_total (count_after after test) refl t in
      let c = linear_spent after test left l in
      let d = s test in
      let equal = m test in
      omega arith

  mirror : (g : Sig) (rules : List Rule) → Plain after → (s s' z : RuleState) (acts : List Fact) → RuleStep g rules s acts s' → IsMatchedBy after s z → Mirrored g after z acts s' ⊎ Used g rules s acts s'
  mirror g rules p s _ z _ (makes_name n free) f = inl (record {
    next = makes z n;
    follows = record { facts = adds_one s.facts z.facts (fr_fact n) f.facts (p.fr_stays n); known = f.known; made = ap (λ (ns : List ℕ). ns ++ n ∷ []) f.made };
    done_too = λ others. makes_name n (λ c. free (subst (λ ns. Contains ns n) f.made c));
  })
  mirror g rules p s _ z _ (learns k t h) f =
      let x = take_one after z.facts f.facts (p.out_stays t) h in
      inl (record {
        next = gains (leaves z x.left) t;
        follows = record { facts = x.matches; known = ap (λ (ts : List Tree). ts ++ t ∷ []) f.known; made = f.made };
        done_too = λ others. learns x.number t x.takes;
      })
  mirror g rules p s _ z _ (owns k n h) f =
      let x = take_one after z.facts f.facts (p.fr_stays n) h in
      inl (record {
        next = gains (leaves z x.left) (fresh n);
        follows = record { facts = x.matches; known = ap (λ (ts : List Tree). ts ++ fresh n ∷ []) f.known; made = f.made };
        done_too = λ others. owns x.number n x.takes;
      })
  mirror g rules p s _ z _ (knows_public a) f = inl (record {
    next = gains z (public a);
    follows = record { facts = f.facts; known = ap (λ (ts : List Tree). ts ++ public a ∷ []) f.known; made = f.made };
    done_too = λ others. knows_public a;
  })
  mirror g rules p s _ z _ (applies h ts t q n c form) f = inl (record {
    next = gains z t;
    follows = record { facts = f.facts; known = ap (λ (us : List Tree). us ++ t ∷ []) f.known; made = f.made };
    done_too = λ others. applies h ts t q n (subst (λ us. All (Contains us) ts) (sym f.known) c) form;
  })
  mirror g rules p s _ z _ (gives t c) f = inl (record {
    next = leaves z (adds z.facts (in_fact t ∷ []));
    follows = record { facts = adds_one s.facts z.facts (in_fact t) f.facts (p.in_stays t); known = f.known; made = f.made };
    done_too = λ others. gives t (subst (λ us. Contains us t) (sym f.known) c);
  })
  mirror g rules p s _ z acts (uses {rest = rest} r ks σ left _ right c t u) f =
      inr (record { rest = rest; rule = r; numbers = ks; choice = σ; left = left; right = right; among = c; takes = t; use_is = u; is = refl })

filled-append : (xs ys : Trace) → filled (xs ++ ys) ≡ filled xs ++ filled ys
filled-append [] ys = refl
filled-append (x ∷ xs) ys = ap (λ zs. shown x ++ zs) (filled-append xs ys) ∙ sym (append_assoc (shown x) (filled xs) (filled ys))

filled-push : (full : Trace) (acts : List Fact) → filled (full ++ acts ∷ []) ≡ filled full ++ shown acts
filled-push full acts = filled-append full (acts ∷ []) ∙ ap (λ zs. filled full ++ zs) (append-nil (shown acts))

filled_silent : (full : Trace) (acts : List Fact) → acts ≡ [] → filled (full ++ acts ∷ []) ≡ filled full
filled_silent full acts e = filled-push full acts ∙ ap (λ a. filled full ++ shown a) e ∙ append-nil (filled full)

module _ (g : Sig) (after : Fact → List Fact) (rules shorts : List Rule) (runs_normal : (s : RuleState) (full : Trace) → RuleRun g rules s full → HoldsNormal (equations g) s) (carried : AreCarried g after rules shorts) where
  plain : Plain after
  plain = record { in_stays = carried.in_stays; out_stays = carried.out_stays; fr_stays = carried.fr_stays }

  -- the short state that follows: it shows the same by one step, or nothing is shown and it stays
  record Answer (z : RuleState) (acts : List Fact) (s' : RuleState) : Type 0 where
    next : RuleState
    follows : IsMatchedBy after s' next
    how : ((acts ≡ []) × (next ≡ z)) ⊎ RuleStep g shorts z acts next

  follow_use : (s s' z : RuleState) (acts : List Fact) (u : Used g rules s acts s') → HoldsNormal (equations g) s → IsMatchedBy after s z → Answer z acts s'
  follow_use s s' z acts u n f = at (carried.each u.rule u.among) where
    at : IsSilent g after u.rule ⊎ ((q : Rule) × Contains shorts q × Carries g after u.rule q) → Answer z acts s'
    at (inl silent) =
        let q = silent u.choice u.left acts u.right (taken_normal (equations g) n u.takes) u.use_is in
        rw u.is (record {
          next = z;
          follows = record { facts = silent_matches after z.facts u.right f.facts q.1 q.2 u.takes; known = f.known; made = f.made };
          how = inl (q.0, refl);
        })
    at (inr short) =
        let q = short.2 u.choice u.left acts u.right (taken_normal (equations g) n u.takes) u.use_is in
        let x = take_too after z.facts f.facts q.0 u.takes in
        rw u.is (record {
          next = leaves z (adds x.left q.1.0);
          follows = record { facts = adds_alike after u.rest x.left u.right q.1.0 x.matches q.1.2; known = f.known; made = f.made };
          how = inr (uses short.0 x.numbers u.choice u.left acts q.1.0 short.1 x.takes q.1.1);
        })

  follow : (s s' z : RuleState) (acts : List Fact) → RuleStep g rules s acts s' → HoldsNormal (equations g) s → IsMatchedBy after s z → Answer z acts s'
  follow s s' z acts h n f = at (mirror after g rules plain s s' z acts h f) where
    at : Mirrored g after z acts s' ⊎ Used g rules s acts s' → Answer z acts s'
    at (inl m) = record { next = m.next; follows = m.follows; how = inr (m.done_too shorts) }
    at (inr u) = follow_use s s' z acts u n f

  -- so runs are followed
  record RunAnswer (s : RuleState) (full : Trace) : Type 0 where
    state : RuleState
    full_too : Trace
    run : RuleRun g shorts state full_too
    follows : IsMatchedBy after s state
    shows : filled full_too ≡ filled full

  follow_run : (s : RuleState) (full : Trace) → RuleRun g rules s full → RunAnswer s full
  follow_run _ _ starts = record { state = empty_state; full_too = []; run = starts; follows = record { facts = λ test. refl; known = refl; made = refl }; shows = refl }
  follow_run _ _ (further {s} {z = s'} {full} {acts} r h) = at (follow_run s full r) where
    at : RunAnswer s full → RunAnswer s' (full ++ acts ∷ [])
    at before = go (follow s s' before.state acts h (runs_normal s full r) before.follows) where
      go : Answer before.state acts s' → RunAnswer s' (full ++ acts ∷ [])
      go a = by a.how where
        by : ((acts ≡ []) × (a.next ≡ before.state)) ⊎ RuleStep g shorts before.state acts a.next → RunAnswer s' (full ++ acts ∷ [])
        by (inl quiet) = record {
          state = a.next;
          full_too = before.full_too;
          run = subst (λ x. RuleRun g shorts x before.full_too) (sym quiet.1) before.run;
          follows = a.follows;
          shows = before.shows ∙ sym (filled_silent full acts quiet.0);
        }
        by (inr move) = record {
          state = a.next;
          full_too = before.full_too ++ acts ∷ [];
          run = further before.run move;
          follows = a.follows;
          shows = filled-push before.full_too acts ∙ ap (λ zs. zs ++ shown acts) before.shows ∙ sym (filled-push full acts);
        }

-- a fact that counts is live
live_counted : (xs : Pile) (f : Fact) → 0 < total (count_after itself (same_fact f)) xs → Live xs f
live_counted xs f h = found_live xs f (total_found (count_after itself (same_fact f)) xs h)

pub counts-flat : (test : Fact → Bool) (fs : List Fact) → counts test (flat_map itself fs) ≡ counts test fs
counts-flat test [] = refl
counts-flat test (f ∷ fs) = ap (λ n. count test f + n) (counts-flat test fs)

module _ (g : Sig) (rules : List Rule) where
  -- a run goes on by silent rules until what it added settled
  record Settled (base : Fact → ℕ) (known : List Tree) (made : List ℕ) (n : (Fact → Bool) → ℕ) (hs : List Fact) (tr : Trace) : Type 0 where
    state : RuleState
    full : Trace
    run : RuleRun g rules state full
    facts : (test : Fact → Bool) → total (count_after itself test) state.facts ≡ n test + counts test hs
    known_is : state.known ≡ known
    made_is : state.made ≡ made
    shows : filled full ≡ tr

  settle_run : (base : Fact → ℕ) (n : (Fact → Bool) → ℕ) (fs hs : List Fact) → SettleTo g rules fs hs → (s : RuleState) (full : Trace) → RuleRun g rules s full
      → ((test : Fact → Bool) → total (count_after itself test) s.facts ≡ n test + counts test fs) → Settled base s.known s.made n hs (filled full)
  settle_run base n fs hs (done a) s full r h = record {
    state = s;
    full = full;
    run = r;
    facts = λ test. let x = h test in let y = a test in omega arith;
    known_is = refl;
    made_is = refl;
    shows = refl;
  }
  settle_run base n fs hs (step rest q τ f more c u linear a d) s full r h =
      let one_of : count (same_fact f) f ≡ 1 = ap (λ (b : Bool). cond b 1 0) (same_fact_self f) in
      let x = h (same_fact f) in
      let y = a (same_fact f) in
      let l : Live s.facts f = live_counted s.facts f (omega arith) in
      let left : Pile = used s.facts l.number f in
      let taken : Takes s.facts (l.number ∷ []) (f ∷ []) left = one l.is nothing in
      let next : RuleState = leaves s (adds left more) in
      let went : RuleStep g rules s [] next = uses q (l.number ∷ []) τ (f ∷ []) [] more c taken u in
      let facts : (test : Fact → Bool) → total (count_after itself test) next.facts ≡ n test + counts test (more ++ rest) =
      λ test.
      let P : Fact → Type 0 = λ (e : Fact). e.persistent ≡ false in
      let b = adds_total itself test left more in
      let e = takes_total (count_after itself test) refl taken in
      let k = linear_spent itself test (f ∷ []) (All-cons P f [] linear (All-nil P)) in
      let i = counts-flat test more in
      let j = total-append (count test) more rest in
      let x = h test in
      let y = a test in
      omega arith in
      let after_it = settle_run base n (more ++ rest) hs d next (full ++ [] ∷ []) (further r went) facts in
      record {
        state = after_it.state;
        full = after_it.full;
        run = after_it.run;
        facts = after_it.facts;
        known_is = after_it.known_is;
        made_is = after_it.made_is;
        shows = after_it.shows ∙ filled_silent full [] refl;
      }

module _ (g : Sig) (rules shorts : List Rule) (expanded : AreExpanded g rules shorts) where
  as_it_is : Plain itself
  as_it_is = record { in_stays = λ t. refl; out_stays = λ t. refl; fr_stays = λ n. refl }

  -- a run of the rules to a state with the same facts, which shows the same
  record Back (z : RuleState) (full : Trace) : Type 0 where
    state : RuleState
    full_too : Trace
    run : RuleRun g rules state full_too
    follows : IsMatchedBy itself z state
    shows : filled full_too ≡ filled full

  all_stay : (fs : List Fact) → All (Stays itself) fs
  all_stay [] = All-nil (Stays itself)
  all_stay (f ∷ fs) = All-cons (Stays itself) f fs refl (all_stay fs)

  back_use : (z z' : RuleState) (full : Trace) (acts : List Fact) (u : Used g shorts z acts z') → Back z full → Back z' (full ++ acts ∷ [])
  back_use z z' full acts u b =
      let e = expanded.each u.rule u.among in
      let q = e.2 u.choice u.left acts u.right u.use_is in
      let x = take_too itself b.state.facts b.follows.facts (all_stay u.left) u.takes in
      let mid : RuleState = leaves b.state (adds x.left q.0) in
      let went : RuleStep g rules b.state acts mid = uses e.0 x.numbers u.choice u.left acts q.0 e.1 x.takes q.1 in
      let settled = settle_run g rules (λ f. 0) (λ test. total (count_after itself test) x.left) q.0 u.right q.2 mid (b.full_too ++ acts ∷ []) (further b.run went)
      (λ test. let i = adds_total itself test x.left q.0 in let j = counts-flat test q.0 in omega arith) in
      rw u.is (record {
        state = settled.state;
        full_too = settled.full;
        run = settled.run;
        follows = record {
          facts = λ test.
              let i = adds_total itself test u.rest u.right in
              let j = counts-flat test u.right in
              let k = settled.facts test in
              let m = x.matches test in
              omega arith;
          known = settled.known_is ∙ b.follows.known;
          made = settled.made_is ∙ b.follows.made;
        };
        shows = settled.shows ∙ filled-push b.full_too acts ∙ ap (λ zs. zs ++ shown acts) b.shows ∙ sym (filled-push full acts);
      })

  back_run : (z : RuleState) (full : Trace) → RuleRun g shorts z full → Back z full
  back_run _ _ starts = record { state = empty_state; full_too = []; run = starts; follows = record { facts = λ test. refl; known = refl; made = refl }; shows = refl }
  back_run _ _ (further {s} {z = z'} {full} {acts} r h) = at (back_run s full r) where
    at : Back s full → Back z' (full ++ acts ∷ [])
    at b = go (mirror itself g shorts as_it_is s z' b.state acts h b.follows) where
      go : Mirrored g itself b.state acts z' ⊎ Used g shorts s acts z' → Back z' (full ++ acts ∷ [])
      go (inr u) = back_use s z' full acts u b
      go (inl m) = record {
        state = m.next;
        full_too = b.full_too ++ acts ∷ [];
        run = further b.run (m.done_too rules);
        follows = m.follows;
        shows = filled-push b.full_too acts ∙ ap (λ zs. zs ++ shown acts) b.shows ∙ sym (filled-push full acts);
      }

pub carried-rules-show-the-same : CarriedRulesShowTheSame
carried-rules-show-the-same g after rules shorts runs_normal carried expanded tr = (there, here)
  where
    there : IsFilledTrace g rules tr → IsFilledTrace g shorts tr
    there t = let a = follow_run g after rules shorts runs_normal carried t.0 t.1 t.2 in (a.state, a.full_too, a.run, a.shows ∙ t.3)

    here : IsFilledTrace g shorts tr → IsFilledTrace g rules tr
    here t = let b = back_run g rules shorts expanded t.0 t.1 t.2 in (b.state, b.full_too, b.run, b.shows ∙ t.3)
