-- Steps that are possible, and why others are refused, by hand.
use Rattle.std.proofs.Common.{◌≡◌, ◌≤◌, ◌<◌, ℕ, zero, suc, Bool, true, false, List, [], ◌∷◌, ◌++◌, ◌+◌, ◌⊎◌, length, Some, None, slice_get, refl, sym, ap, subst, arith, lit≤, lit<, inl, inr}
use Rattle.std.specs.Prelude.{codes, All, Contains}
use Rattle.std.proofs.lemmas.Bool.{false≢true}
use Rattle.std.proofs.lemmas.List.Elements.{All-nil, All-cons}
use Rattle.sap_terms.specs.AdversaryFacts.{k_fact}
use Rattle.sap_terms.specs.Choice.{Choice, instance, fits_sort}
use Rattle.sap_terms.specs.Deduce.{IsDeducible, a_public, applied}
use Rattle.sap_terms.specs.Equal.{IsTheoryEqual, same, next, forward}
use Rattle.sap_terms.specs.Equations.{equations, first, app1, app2, fst_name, pair_name}
use Rattle.sap_terms.specs.Laws.{LeavesAreNormal, NamesAreMessages, DestructorsHeadLeftSides}
use Rattle.sap_terms.specs.Message.{IsMessage, IsMessageChoice, IsOver}
use Rattle.sap_terms.specs.Normal.{IsNormal, IsNormalForm}
use Rattle.sap_terms.specs.Signature.{Sig, pairs_alone}
use Rattle.sap_terms.specs.Trace.{Trace}
use Rattle.sap_terms.specs.Tree.{Tree, public, fresh, apply, Trees, none, more, trees_of, node_count, trees_count}
use Rattle.sap_terms.specs.View.{term}
use Rattle.sap_terms.specs.declared.limits.TheConstants.{MOST_TERM_NODES}
use Rattle.sap_terms.specs.declared.var.Sort.{Sort}
use Rattle.sap_terms.specs.declared.var.Sort.TheVariants.{Msg, Fresh, Pub}
use Rattle.sap_terms.specs.declared.var.Var.{Var}
use Rattle.sap_terms.proofs.PlainLaws.Items.{first_item, later_item}
use Rattle.sap_rewrite.specs.Large.{SomeSubterm, SomeSubtermWithin, itself, below, here, later}
use Rattle.sap_rewrite.specs.Laws.{EqualityIsKept, FormIsOne, FormsDecide, SymbolsReduceOnce}
use Rattle.sap_process.specs.Configuration.{Config, CanGive, initial}
use Rattle.sap_process.specs.Proc as process
use Rattle.sap_process.specs.ProcessSteps.{Fits}
use Rattle.sap_process.specs.StepExamples.{a, b, c, x, var_x, pair, alone, showing, shown_fact, sending}
use Rattle.sap_runs.specs.Limits.{HasFewNodes}
use Rattle.sap_runs.specs.Marks.{Mark}
use Rattle.sap_runs.specs.declared.process_step.PStep.{PStep}
use Rattle.sap_runs.specs.declared.process_step.PStep.TheVariants as line
use Rattle.sap_runs.specs.declared.short_step.SStep.{SStep}
use Rattle.sap_runs.specs.declared.short_step.SStep.TheVariants as short
use Rattle.sap_lines.specs.Channels.{SendsOn, too_large}
use Rattle.sap_lines.specs.Faults.{IsRefused, FitsNothing}
use Rattle.sap_lines.specs.Lines.{IsProcessLine, EvaluateWithin}
use Rattle.sap_lines.specs.declared.fault.PFault.{PFault}
use Rattle.sap_lines.specs.declared.fault.PFault.TheVariants as fault
use Rattle.sap_intruder.specs.FilledRuns.{IsLeftOut}
use Rattle.sap_intruder.specs.OneAnswer.{IsFirstRefusedOfShort, ShortRefusalsAreOne}
use Rattle.sap_intruder.specs.Refusals.{IsShortRefused, not_deduced, bad, input_not_given, input_refused, no_channel, channel_not_given, known_not_given}
use Rattle.sap_intruder.specs.ShortExamples.{bare, unheld}
use Rattle.sap_intruder.specs.ShortLines.{IsGiven, acts, takes, sends}
use Rattle.sap_intruder.specs.ShortRuns.{IsLegalShortRun}
use Rattle.sap_intruder.specs.StepExamples.{taking_pair, vanishing, doubled, known_twice, PossibleByHand, RefusedByHand, LeftOutByHand}
use Rattle.sap_intruder.specs.declared.fill_fault.FillFault.{FillFault}
use Rattle.sap_intruder.specs.declared.fill_fault.FillFault.TheVariants as fill
use Rattle.sap_intruder.proofs.OneRun.{pushed}
use Rattle.sap_intruder.proofs.ShortByHand as hand
use Rattle.sap_intruder.proofs.Sizes.{forms_small}

-- what holds of all terms
pub record Laws : Type 0 where
  pub leaves : LeavesAreNormal
  pub names : NamesAreMessages
  pub heads : DestructorsHeadLeftSides
  pub one : FormIsOne
  pub decide : FormsDecide
  pub kept : EqualityIsKept
  pub once : SymbolsReduceOnce
  pub cause : ShortRefusalsAreOne

-- where some subterm has at least so many nodes, the term has
module _ {P : Tree → Type 0} (m : ℕ) (least : (t : Tree) → P t → m ≤ node_count t) where
  mutual
    form_within : (t : Tree) → SomeSubterm P t → m ≤ node_count t
    form_within t (itself f) = least t f
    form_within _ (below {ts = ts} s) = let h = forms_within ts s in omega (arith, h)

    forms_within : (ts : Trees) → SomeSubtermWithin P ts → m ≤ trees_count ts
    forms_within _ (here {t = t} {ts = ts} s) = let h = form_within t s in omega (arith, h)
    forms_within _ (later {t = t} {ts = ts} s) = let h = forms_within ts s in omega (arith, h)

module _ (laws : Laws) where
  -- ---- normal terms

  pair_normal : (t u : Tree) → IsNormal (equations pairs_alone) t → IsNormal (equations pairs_alone) u → IsNormal (equations pairs_alone) (pair t u)
  pair_normal t u m n = laws.leaves.of_symbol (equations pairs_alone) pair_name (more t (more u none)) (λ d. let head = (laws.heads pairs_alone pair_name).1 d in absurd (false≢true head)) (m, (n, tt))

  name_normal : (g : Sig) (n : List ℕ) → IsNormal (equations g) (public n)
  name_normal g n = laws.leaves.of_public_name (equations g) n

  own : (g : Sig) (t : Tree) → IsNormal (equations g) t → IsNormalForm (equations g) t t
  own g t n = record { equal = same; normal = n }

  small : (g : Sig) (ts : List Tree) → trees_count (trees_of ts) ≤ MOST_TERM_NODES → EvaluateWithin g HasFewNodes ts
  small g ts few n s =
      let h = forms_within (node_count n) (λ t f. forms_small laws.kept laws.once laws.leaves (equations g) laws.one t n f) (trees_of ts) s in
      omega (arith, h, few)

  -- ---- what is possible

  give_name : (g : Sig) (n : List ℕ) (p : process.Proc) → CanGive g (alone p) (public n)
  give_name g n p = record {
    deducible = record { form = public n; is_form = own g (public n) (name_normal g n); earlier = []; derivation = (a_public n refl, tt) };
    normal = name_normal g n;
  }

  two_normal : IsNormal (equations pairs_alone) (pair a b)
  two_normal = pair_normal a b (name_normal pairs_alone (codes "a")) (name_normal pairs_alone (codes "b"))

  give_pair : (p : process.Proc) → CanGive pairs_alone (alone p) (pair a b)
  give_pair p = record {
    deducible = record {
      form = pair a b;
      is_form = own pairs_alone (pair a b) two_normal;
      earlier = a ∷ b ∷ [];
      derivation = (
        applied pair_name (a ∷ b ∷ []) refl refl
            (All-cons (Contains (a ∷ b ∷ [])) a (b ∷ []) (first_item a (b ∷ [])) (All-cons (Contains (a ∷ b ∷ [])) b [] (later_item a (b ∷ []) b (first_item b [])) (All-nil (Contains (a ∷ b ∷ [])))))
            (own pairs_alone (pair a b) two_normal),
        (a_public (codes "a") refl, (a_public (codes "b") refl, tt)),
      );
    };
    normal = two_normal;
  }

  -- 'a' for each variable, or a fresh name
  abbrev by_sort : Sort → Tree
  by_sort Msg = a
  by_sort Pub = a
  by_sort Fresh = fresh 0

  abbrev choice : Choice
  choice v = by_sort v.sort

  sort_message : (s : Sort) → IsMessage pairs_alone s (by_sort s)
  sort_message Msg = laws.names.public_name pairs_alone Msg (codes "a") refl
  sort_message Pub = laws.names.public_name pairs_alone Pub (codes "a") refl
  sort_message Fresh = laws.names.fresh_name pairs_alone Fresh 0 refl

  pub possible : PossibleByHand
  possible = record {
    ends = acts {s = line.Nil 0} {fs = []} tt (IsProcessLine.ends 0 refl);
    shows = acts {s = line.Event 0} {fs = []} tt
        (IsProcessLine.shows {f = shown_fact a} {h = shown_fact a} {p = process.nil} 0 refl
        (record { name = refl; persistent = refl; args = (own bare a (name_normal bare (codes "a")), tt) }) (small bare (a ∷ []) (lit≤ tt)));
    takes = takes {x = pair a b} {fs = pair a b ∷ []}
        (record { over = (refl, (tt, (tt, tt))); form = own pairs_alone (pair a b) two_normal; gives = give_pair taking_pair })
        (IsProcessLine.inputs {n = pair var_x b} {x = pair a b} {p = showing var_x} 0 0 choice refl refl (record { messages = λ v. sort_message v.sort; equal = same }));
    sends = sends {x = c} {fs = c ∷ a ∷ []} (give_name bare (codes "c") (sending c a))
        (IsProcessLine.outputs_on {m = c} {n = a} {x = c} {u = a} {p = showing b} 0 0 refl refl (own bare c (name_normal bare (codes "c"))) (own bare a (name_normal bare (codes "a")))
        (small bare (c ∷ a ∷ []) (lit≤ tt)));
  }

  -- ---- what is refused

  not_given : (p : process.Proc) → CanGive bare (alone p) (fresh 1) → ⊥
  not_given p h =
      let d = h.deducible in
      hand.no_fresh d.earlier d.form 1 d.derivation.0 (laws.one (equations bare) (fresh 1) d.form (fresh 1) d.is_form (hand.fresh_form laws.leaves laws.one))

  not_given_refused : IsShortRefused bare (alone taking_pair) (short.In 0 (term (fresh 1))) fill.NotDeduced
  not_given_refused = input_not_given {p = taking_pair} refl refl (not_deduced tt (hand.fresh_form laws.leaves laws.one) (not_given taking_pair))

  -- a pair is no name
  fits_nothing : FitsNothing bare (pair var_x b) a
  fits_nothing σ fits =
      let message = fits.messages x in
      let is_pair : IsNormal (equations bare) (pair (σ x) b) =
      laws.leaves.of_symbol (equations bare) pair_name (more (σ x) (more b none)) (λ d. let head = (laws.heads bare pair_name).1 d in absurd (false≢true head))
      (message.normal, (name_normal bare (codes "b"), tt)) in
      let equal : pair (σ x) b ≡ a =
      (laws.decide (equations bare) (pair (σ x) b) a (pair (σ x) b) a (own bare (pair (σ x) b) is_pair) (own bare a (name_normal bare (codes "a")))).0 fits.equal in
      absurd (cc (equal))

  given_a : IsGiven bare (alone taking_pair) (term a) a
  given_a = record { over = tt; form = own bare a (name_normal bare (codes "a")); gives = give_name bare (codes "a") taking_pair }

  doubled_normal : (k : ℕ) → IsNormal (equations pairs_alone) (doubled k)
  doubled_normal zero = name_normal pairs_alone (codes "a")
  doubled_normal (suc k) = pair_normal (doubled k) (doubled k) (doubled_normal k) (doubled_normal k)

  large_refused : IsShortRefused pairs_alone (alone (sending (fresh 1) (doubled 8))) (short.Send 0) (fill.Process fault.TermLarge)
  large_refused =
      no_channel {e = fault.TermLarge}
      (too_large {m = fresh 1} {n = doubled 8} {p = showing b} refl
      (later (here (itself (record { form = doubled 8; is_form = own pairs_alone (doubled 8) (doubled_normal 8); large = lit< tt })))))
      (λ e. cc (e))

  vanished : IsNormalForm (equations pairs_alone) vanishing a
  vanished = record { equal = next (forward first) same; normal = name_normal pairs_alone (codes "a") }

  first_step : IsLegalShortRun bare HasFewNodes process.nil (short.Know (term a) ∷ []) (initial process.nil) ((k_fact a ∷ []) ∷ []) []
  first_step = hand.legal laws.leaves

  -- before the first step there is none, so it is that step, and behind no steps it is as at the start
  not_first : ¬ IsFirstRefusedOfShort bare process.nil known_twice 1 fill.NotDeduced
  not_first r = at r.before r.step r.after r.config r.cut r.counts (λ none. started r.before r.config r.trace r.marks r.legal none) r.refused where
    started : (ss : List SStep) (d : Config) (tr : Trace) (ms : List Mark) → IsLegalShortRun bare HasFewNodes process.nil ss d tr ms → ss ≡ [] → d ≡ initial process.nil
    started _ _ _ _ IsLegalShortRun.starts e = refl
    started _ _ _ _ (IsLegalShortRun.further {ss = ss} s inner label run is) e = absurd (pushed ss s e)

    at : (before : List SStep) (s : SStep) (after : List SStep) (d : Config) → known_twice ≡ before ++ s ∷ after → 1 ≡ length before + 1 → (before ≡ [] → d ≡ initial process.nil) → IsShortRefused bare d s fill.NotDeduced → ⊥
    at [] s after d cut counts start is =
        let same_step : s ≡ short.Know (term a) = cc (cut) in
        hand.derivable laws.leaves laws.one
        (subst (λ (z : SStep). IsShortRefused bare (initial process.nil) z fill.NotDeduced) same_step (subst (λ (z : Config). IsShortRefused bare z s fill.NotDeduced) (start refl) is))
    at (y ∷ before) s after d cut counts start is = omega (arith, counts)

  pub refused : RefusedByHand
  refused = record {
    not_given = not_given_refused;
    not_unfit = λ h.
        let e = laws.cause bare (alone taking_pair) (short.In 0 (term (fresh 1))) fill.NotDeduced (fill.Process fault.NoMatch) not_given_refused h in
        absurd (cc (e));
    unfit = input_refused {e = fault.NoMatch} given_a (IsRefused.unfitting {n = pair var_x b} {x = a} {p = showing var_x} 0 0 refl refl fits_nothing) (λ e. cc (e));
    large = large_refused;
    not_hidden = λ h.
        let e = laws.cause pairs_alone (alone (sending (fresh 1) (doubled 8))) (short.Send 0) (fill.Process fault.TermLarge) fill.NotDeduced large_refused h in
        absurd (cc (e));
    hidden = channel_not_given {x = fresh 1}
        (record { channel = fresh 1; message = a; behind = showing b; runs = refl; form = hand.fresh_form laws.leaves laws.one; small = small bare (fresh 1 ∷ a ∷ []) (lit≤ tt) })
        (not_given (sending (fresh 1) a));
    vanishes = vanished;
    bad = known_not_given (bad (λ over. let held = over.1.0.1.1.0.0 in absurd (cc (held))));
    second = record {
      before = short.Know (term a) ∷ [];
      step = short.Know (term (fresh 1));
      after = [];
      cut = refl;
      counts = refl;
      config = initial process.nil;
      trace = (k_fact a ∷ []) ∷ [];
      marks = [];
      legal = first_step;
      refused = hand.underivable laws.leaves laws.one;
    };
    not_first = not_first;
  }

pub left_out : LeftOutByHand
left_out = record { written = λ n. tt; applied = λ f ks. tt; alone = only } where
  only : (s : PStep) → IsLeftOut s → ((n : List ℕ) × (s ≡ line.Public n)) ⊎ ((f : List ℕ) × (ks : List ℕ) × (s ≡ line.Apply f ks))
  only (line.Public n) h = inl (n, refl)
  only (line.Apply f ks) h = inr (f, ks, refl)
  only (line.Nil t) h = absurd h
  only (line.Par t) h = absurd h
  only (line.Rep t) h = absurd h
  only (line.New t n) h = absurd h
  only (line.Out t) h = absurd h
  only (line.Send t k) h = absurd h
  only (line.In t k) h = absurd h
  only (line.Sync s r) h = absurd h
  only (line.Then t) h = absurd h
  only (line.Else t) h = absurd h
  only (line.Event t) h = absurd h
  only (line.Insert t) h = absurd h
  only (line.Delete t) h = absurd h
  only (line.Found t) h = absurd h
  only (line.Missing t) h = absurd h
  only (line.Lock t) h = absurd h
  only (line.Unlock t) h = absurd h
  only (line.Embedded t ks b) h = absurd h
  only (line.Name n) h = absurd h
  only (line.Know k) h = absurd h
