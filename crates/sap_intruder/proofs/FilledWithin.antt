-- Each legal short run is filled by some run, within the limit by one within it.
use Rattle.std.proofs.Common.{◌≡◌, ℕ, List, [], ◌∷◌, ◌++◌, Some, slice_get, refl, sym, ap, subst, ◌∙◌, arith, inl, inr}
use Rattle.std.proofs.Common.{length, map, suc}
use Rattle.std.specs.Prelude.{All, Contains, slice_index_or}
use Rattle.std.proofs.lemmas.List.Elements.{All-nil, All-cons, All-head, All-tail, All-weaker, All-contains, All-contains_itself, Contains-push, Contains-append_left, Contains-push_cases}
use Rattle.sap_terms.specs.AdversaryFacts.{k_fact}
use Rattle.sap_terms.specs.Deduce.{IsDerived, a_public, a_name, given, applied, IsDerivation, IsDeducible}
use Rattle.sap_terms.specs.Equal.{same}
use Rattle.sap_terms.specs.Equations.{equations}
use Rattle.sap_terms.specs.Laws.{LeavesAreNormal}
use Rattle.sap_terms.specs.Normal.{IsNormal, IsNormalForm}
use Rattle.sap_terms.specs.Signature.{Sig, HoldsBuiltins}
use Rattle.sap_terms.specs.Trace.{Trace, shown}
use Rattle.sap_terms.specs.Tree.{Tree, public, fresh}
use Rattle.sap_terms.specs.View.{tree}
use Rattle.sap_terms.specs.declared.fact.Fact.{Fact}
use Rattle.sap_terms.proofs.PlainLaws.Items.{got_contained, cons_cases}
use Rattle.sap_rewrite.specs.Large.{itself, here, later}
use Rattle.sap_rewrite.specs.Laws.{EqualityIsKept, FormIsOne, SymbolsReduceOnce}
use Rattle.sap_derive.specs.Near.{IsNear, DerivationsStayNear}
use Rattle.sap_process.specs.Configuration.{Config, CanGive}
use Rattle.sap_process.specs.Proc.{Proc}
use Rattle.sap_runs.specs.Inner.{InnerAction}
use Rattle.sap_runs.specs.Limits.{AnySize, HasFewNodes}
use Rattle.sap_runs.specs.Marks.{Mark, marks_of}
use Rattle.sap_runs.specs.Short.{IsShortStep}
use Rattle.sap_runs.specs.declared.process_step.PStep.{PStep}
use Rattle.sap_runs.specs.declared.process_step.PStep.TheVariants as line
use Rattle.sap_runs.specs.declared.short_step.SStep.{SStep}
use Rattle.sap_runs.specs.declared.short_step.SStep.TheVariants as short
use Rattle.sap_lines.specs.Lines.{IsProcessLine}
use Rattle.sap_lines.specs.OtherEntries.{ask_nothing, send_on, take_in, LinesThatAskTheSameDoTheSame}
use Rattle.sap_intruder.specs.FilledRuns.{Fills, input, sending, knowing, IsFilledRun, IsLeftOut, LegalShortRunsCanBeFilled, SmallShortRunsCanBeFilled}
use Rattle.sap_intruder.specs.FilledRuns.{same as as_it_is}
use Rattle.sap_intruder.specs.ShortLines.{IsShortLine, acts, takes, sends, knows}
use Rattle.sap_intruder.specs.ShortRuns.{IsLegalShortRun, starts, further}
use Rattle.sap_intruder.proofs.Sizes.{forms_small, subterm_small}

-- what was sent, and the adversary's names, are among the entries; what was sent is normal, and as W says
record HasGiven (g : Sig) (W : Tree → Type 0) (c : Config) (es : List Tree) : Type 0 where
  sent : (x : Tree) → Contains c.frame x → Contains es x
  owned : (n : ℕ) → Contains c.own n → Contains es (fresh n)
  fits : (x : Tree) → Contains c.frame x → IsNormal (equations g) x × W x

sent_more : (frame es : List Tree) (y : Tree) → ((x : Tree) → Contains frame x → Contains es x) → (x : Tree) → Contains (frame ++ y ∷ []) x → Contains (es ++ y ∷ []) x
sent_more frame es y h x m = elim (Contains-push_cases frame y x m) [
  | inl k ↦ Contains-append_left es (y ∷ []) x (h x k)
  | inr is ↦ subst (Contains (es ++ y ∷ [])) is (Contains-push es y)
]

owned_more : (own : List ℕ) (es : List Tree) (k : ℕ) → ((n : ℕ) → Contains own n → Contains es (fresh n)) → (n : ℕ) → Contains (own ++ k ∷ []) n → Contains (es ++ fresh k ∷ []) (fresh n)
owned_more own es k h n m = elim (Contains-push_cases own k n m) [
  | inl j ↦ Contains-append_left es (fresh k ∷ []) (fresh n) (h n j)
  | inr is ↦ subst (λ i. Contains (es ++ fresh k ∷ []) (fresh i)) is (Contains-push es (fresh k))
]

fits_more : (g : Sig) (W : Tree → Type 0) (frame : List Tree) (y : Tree) → ((x : Tree) → Contains frame x → IsNormal (equations g) x × W x) → IsNormal (equations g) y × W y
    → (x : Tree) → Contains (frame ++ y ∷ []) x → IsNormal (equations g) x × W x
fits_more g W frame y h k x m = elim (Contains-push_cases frame y x m) [ inl c ↦ h x c | inr is ↦ subst (λ (u : Tree). IsNormal (equations g) u × W u) is k ]

-- one entry more
grows : (g : Sig) (W : Tree → Type 0) (c : Config) (es : List Tree) (y : Tree) → HasGiven g W c es → HasGiven g W c (es ++ y ∷ [])
grows g W c es y h = record { fits = h.fits; sent = λ x m. Contains-append_left es (y ∷ []) x (h.sent x m); owned = λ n m. Contains-append_left es (y ∷ []) (fresh n) (h.owned n m) }

-- so it is behind each line
keeps_given : (g : Sig) (W : Tree → Type 0) (c d : Config) (es fs : List Tree) (step : PStep) (inner : List InnerAction) (label : List Fact) → IsProcessLine g W c es step inner label d fs
    → HasGiven g W c es → HasGiven g W d fs
keeps_given g W c d es fs step inner label (IsProcessLine.ends t r) h = record { sent = h.sent; owned = h.owned; fits = h.fits }
keeps_given g W c d es fs step inner label (IsProcessLine.splits t r) h = record { sent = h.sent; owned = h.owned; fits = h.fits }
keeps_given g W c d es fs step inner label (IsProcessLine.copies t r) h = record { sent = h.sent; owned = h.owned; fits = h.fits }
keeps_given g W c d es fs step inner label (IsProcessLine.makes_name t n r u) h = record { sent = h.sent; owned = h.owned; fits = h.fits }
keeps_given g W c d es fs step inner label (IsProcessLine.outputs {n = n} t r f v) h =
    record { fits = fits_more g W c.frame n h.fits (f.normal, v n (here (itself f))); sent = sent_more c.frame es n h.sent; owned = λ k m. Contains-append_left es (n ∷ []) (fresh k) (h.owned k m) }
keeps_given g W c d es fs step inner label (IsProcessLine.outputs_on {u = u} t k r e f i v) h =
    record { fits = fits_more g W c.frame u h.fits (i.normal, v u (later (here (itself i)))); sent = sent_more c.frame es u h.sent; owned = λ j m. Contains-append_left es (u ∷ []) (fresh j) (h.owned j m) }
keeps_given g W c d es fs step inner label (IsProcessLine.inputs t k σ r e f) h = record { sent = h.sent; owned = h.owned; fits = h.fits }
keeps_given g W c d es fs step inner label (IsProcessLine.inputs_on t k σ r e n q v) h = record { sent = h.sent; owned = h.owned; fits = h.fits }
keeps_given g W c d es fs step inner label (IsProcessLine.meets s t σ r q e f v) h = record { sent = h.sent; owned = h.owned; fits = h.fits }
keeps_given g W c d es fs step inner label (IsProcessLine.agrees t r f e is v) h = record { sent = h.sent; owned = h.owned; fits = h.fits }
keeps_given g W c d es fs step inner label (IsProcessLine.differs t r f e differ v) h = record { sent = h.sent; owned = h.owned; fits = h.fits }
keeps_given g W c d es fs step inner label (IsProcessLine.shows t r f v) h = record { sent = h.sent; owned = h.owned; fits = h.fits }
keeps_given g W c d es fs step inner label (IsProcessLine.inserts t r f e v) h = record { sent = h.sent; owned = h.owned; fits = h.fits }
keeps_given g W c d es fs step inner label (IsProcessLine.deletes t r f v) h = record { sent = h.sent; owned = h.owned; fits = h.fits }
keeps_given g W c d es fs step inner label (IsProcessLine.finds t r f e v) h = record { sent = h.sent; owned = h.owned; fits = h.fits }
keeps_given g W c d es fs step inner label (IsProcessLine.misses t r f e v) h = record { sent = h.sent; owned = h.owned; fits = h.fits }
keeps_given g W c d es fs step inner label (IsProcessLine.locks t r f e v) h = record { sent = h.sent; owned = h.owned; fits = h.fits }
keeps_given g W c d es fs step inner label (IsProcessLine.unlocks t r f v) h = record { sent = h.sent; owned = h.owned; fits = h.fits }
keeps_given g W c d es fs step inner label (IsProcessLine.embeds t ks b σ left taken right r i q a n j k l v) h = record { sent = h.sent; owned = h.owned; fits = h.fits }
keeps_given g W c d es fs step inner label (IsProcessLine.names n u) h =
    record { fits = h.fits; sent = λ x m. Contains-append_left es (fresh n ∷ []) x (h.sent x m); owned = owned_more c.own es n h.owned }
keeps_given g W c d es fs step inner label (IsProcessLine.writes a) h = grows g W c es (public a) h
keeps_given g W c d es fs step inner label (IsProcessLine.applies f ks ts x p a e n v) h = grows g W c es x h
keeps_given g W c d es fs step inner label (IsProcessLine.knows k x e) h = record { sent = h.sent; owned = h.owned; fits = h.fits }

-- numbers at which the terms stand
numbers_of : (known ts : List Tree) → All (Contains known) ts → (ks : List ℕ) × (map (slice_get known) ks ≡ map Some ts) × (length ks ≡ length ts)
numbers_of known [] h = ([], refl, refl)
numbers_of known (t ∷ ts) h =
    let here = got_contained known t (All-head (Contains known) t ts h) in
    let rest = numbers_of known ts (All-tail (Contains known) t ts h) in
    (here.0 ∷ rest.0, (λ i. here.1 i ∷ rest.1 i), ap suc rest.2)

-- a derivation of a term, all of whose terms are as W says
record DerivedWithin (W : Tree → Type 0) (g : Sig) (names : List ℕ) (frame : List Tree) (x : Tree) : Type 0 where
  earlier : List Tree
  derivation : IsDerivation g names frame (x ∷ earlier)
  within : All W (x ∷ earlier)

-- where what was sent, and the term, are normal and as W says, it has such a derivation if it has any
abbrev CanBeSpared : (Tree → Type 0) → Sig → Type 0
CanBeSpared W g =
    (names : List ℕ) (frame : List Tree) (x : Tree) → ((y : Tree) → Contains frame y → IsNormal (equations g) y × W y) → IsDeducible g names frame x → IsNormal (equations g) x → W x
    → DerivedWithin W g names frame x

-- what the term of the step is, is as W says
abbrev IsSized : (Tree → Type 0) → Sig → SStep → Type 0
IsSized W g (short.In t u) = (x : Tree) → IsNormalForm (equations g) (tree u) x → W x
IsSized W g (short.Know u) = (x : Tree) → IsNormalForm (equations g) (tree u) x → W x
IsSized W g _ = Unit {0}

-- so is the channel on which a thread sends
channel_within : (g : Sig) (W : Tree → Type 0) (c d : Config) (t : ℕ) (x : Tree) (inner : List InnerAction) (label : List Fact) (fs : List Tree)
    → IsProcessLine g W c (x ∷ []) (line.Send t 0) inner label d fs → W x
channel_within g W c d t x inner label fs (IsProcessLine.outputs_on {x = y} _ _ r at f o v) = let same_term : y ≡ x = cc (at) in subst W same_term (v y (here (itself f)))

module _ (W : Tree → Type 0) (alike : LinesThatAskTheSameDoTheSame W) (g : Sig) (spare : CanBeSpared W g) (p : Proc) where
  -- a run that fills the steps
  record Filled (ss : List SStep) (c : Config) (tr : Trace) (marks : List Mark) : Type 0 where
    lines : List PStep
    es : List Tree
    run : IsFilledRun g W p ss lines c es tr marks
    has : HasGiven g W c es

  -- one whose entries have these terms
  record Having (ss : List SStep) (c : Config) (tr : Trace) (marks : List Mark) (ts : List Tree) : Type 0 where
    w : Filled ss c tr marks
    all : All (Contains w.es) ts

  module _ (ss : List SStep) (c : Config) (tr : Trace) (marks : List Mark) where
    -- one more line that is left out
    add_line : (t : Tree) (ts : List Tree) (h : Having ss c tr marks ts) (step : PStep) → IsLeftOut step → IsProcessLine g W c h.w.es step [] [] c (h.w.es ++ t ∷ [])
        → Having ss c tr marks (t ∷ ts)
    add_line t ts h step out is =
        let es = h.w.es ++ t ∷ [] in
        record {
          w = record { lines = h.w.lines ++ step ∷ []; es = es; run = IsFilledRun.finds step h.w.run out is; has = grows g W c h.w.es t h.w.has };
          all = All-cons (Contains es) t ts (Contains-push h.w.es t) (λ k d below. Contains-append_left h.w.es (t ∷ []) (slice_index_or ts k d) (h.all k d below));
        }

    -- a term that is an entry already
    entered : (t : Tree) (ts : List Tree) (h : Having ss c tr marks ts) → Contains h.w.es t → Having ss c tr marks (t ∷ ts)
    entered t ts h m = record { w = h.w; all = All-cons (Contains h.w.es) t ts m h.all }

    all_contained : (xs ys : List Tree) → All (Contains ys) xs → (x : Tree) → Contains xs x → Contains ys x
    all_contained xs ys h x (k, below, is) = subst (Contains ys) is (h k x below)

    derive_next : (t : Tree) (ts : List Tree) → W t → Having ss c tr marks ts → IsDerived g c.own c.frame ts t → Having ss c tr marks (t ∷ ts)
    derive_next t ts size h (a_public n e) =
        let is : public n ≡ t = sym e in
        add_line t ts h (line.Public n) tt (subst (λ x. IsProcessLine g W c h.w.es (line.Public n) [] [] c (h.w.es ++ x ∷ [])) is (IsProcessLine.writes n))
    derive_next t ts size h (a_name n m e) = entered t ts h (subst (Contains h.w.es) (sym e) (h.w.has.owned n m))
    derive_next t ts size h (given m) = entered t ts h (h.w.has.sent t m)
    derive_next t ts size h (applied f us free arity all form) =
        let at = numbers_of h.w.es us (λ k d below. all_contained ts h.w.es h.all (slice_index_or us k d) (all k d below)) in
        add_line t ts h (line.Apply f at.0) tt (IsProcessLine.applies f at.0 us t free (arity ∙ ap Some (sym at.2)) at.1 form size)

    derive_all : Filled ss c tr marks → (ts : List Tree) → All W ts → IsDerivation g c.own c.frame ts → Having ss c tr marks ts
    derive_all w [] sizes d = record { w = w; all = All-nil (Contains w.es) }
    derive_all w (t ∷ ts) sizes d = derive_next t ts (All-head W t ts sizes) (derive_all w ts (All-tail W t ts sizes) d.1) d.0

    -- one that has a term which the adversary can give, with its number
    record WithTerm (x : Tree) : Type 0 where
      w : Filled ss c tr marks
      number : ℕ
      at : slice_get w.es number ≡ Some x

    derive : Filled ss c tr marks → (x : Tree) → CanGive g c x → W x → WithTerm x
    derive w x d size =
        let r = spare c.own c.frame x w.has.fits d.deducible d.normal size in
        let h = derive_all w (x ∷ r.earlier) r.within r.derivation in
        let found = got_contained h.w.es x (All-head (Contains h.w.es) x r.earlier h.all) in
        record { w = h.w; number = found.0; at = found.1 }

    -- the step's own line behind these
    follow : (w : Filled ss c tr marks) (d : Config) (fs : List Tree) (s : SStep) (step : PStep) (inner : List InnerAction) (label : List Fact) → Fills g w.es s step
        → IsProcessLine g W c w.es step inner label d fs → Filled (ss ++ s ∷ []) d (tr ++ shown label) (marks ++ marks_of inner label)
    follow w d fs s step inner label fills is = record {
      lines = w.lines ++ step ∷ [];
      es = fs;
      run = IsFilledRun.follows s step inner label w.run fills is;
      has = keeps_given g W c d w.es fs step inner label is w.has;
    }

    fill_step : (d : Config) (s : SStep) (inner : List InnerAction) (label : List Fact) → Filled ss c tr marks → IsSized W g s → IsShortLine g W c s inner label d
        → Filled (ss ++ s ∷ []) d (tr ++ shown label) (marks ++ marks_of inner label)
    fill_step d _ inner label w sized (acts {s = s} {fs = fs} stands h) =
        let too = alike g c d [] w.es fs s s inner label (ask_nothing s stands) h in
        follow w d (w.es ++ too.added) (short.Act s) s inner label (as_it_is stands) too.second
    fill_step d _ inner label w sized (takes {t = t} {u = u} {x = x} {fs = fs} is h) =
        let v = derive w x is.gives (sized x is.form) in
        let too = alike g c d (x ∷ []) v.w.es fs (line.In t 0) (line.In t v.number) inner label (take_in t 0 v.number x refl v.at) h in
        follow v.w d (v.w.es ++ too.added) (short.In t u) (line.In t v.number) inner label (input (record { term = x; entry = v.at; over = is.over; form = is.form })) too.second
    fill_step d _ inner label w sized (sends {t = t} {x = x} {fs = fs} gives h) =
        let v = derive w x gives (channel_within g W c d t x inner label fs h) in
        let too = alike g c d (x ∷ []) v.w.es fs (line.Send t 0) (line.Send t v.number) inner label (send_on t 0 v.number x refl v.at) h in
        follow v.w d (v.w.es ++ too.added) (short.Send t) (line.Send t v.number) inner label sending too.second
    fill_step _ _ _ _ w sized (knows {u = u} {x = x} is) =
        let v = derive w x is.gives (sized x is.form) in
        follow v.w c v.w.es (short.Know u) (line.Know v.number) [] (k_fact x ∷ []) (knowing (record { term = x; entry = v.at; over = is.over; form = is.form })) (IsProcessLine.knows v.number x v.at)

  fill_run : (ss : List SStep) (c : Config) (tr : Trace) (marks : List Mark) → ((s : SStep) → Contains ss s → IsSized W g s) → IsLegalShortRun g W p ss c tr marks → Filled ss c tr marks
  fill_run _ _ _ _ sized starts = record {
    lines = [];
    es = [];
    run = IsFilledRun.starts;
    has = record { sent = λ x m. absurd (omega (arith, m.1)); owned = λ n m. absurd (omega (arith, m.1)); fits = λ x m. absurd (omega (arith, m.1)) };
  }
  fill_run _ d _ _ sized (further {ss = ss} {c = c} {tr = tr} {marks = marks} s inner label run h) =
      fill_step ss c tr marks d s inner label (fill_run ss c tr marks (λ u m. sized u (Contains-append_left ss (s ∷ []) u m)) run) (sized s (Contains-push ss s)) h

-- where there is no limit, each derivation is as wanted
any_spared : FormIsOne → (g : Sig) → CanBeSpared AnySize g
any_spared one g names frame x fits d normal size =
    let is : d.form ≡ x = one (equations g) x d.form x d.is_form (record { equal = same; normal = normal }) in
    record { earlier = d.earlier; derivation = subst (λ (y : Tree). IsDerivation g names frame (y ∷ d.earlier)) is d.derivation; within = λ k e below. tt }

-- with one, a derivation by near terms is
small_spared : DerivationsStayNear → (g : Sig) → HoldsBuiltins g → CanBeSpared HasFewNodes g
small_spared stay g builtins names frame x fits d normal size =
    let n = stay g names frame x builtins (All-weaker (Contains frame) (IsNormal (equations g)) (λ y m. (fits y m).0) frame (All-contains_itself frame)) normal d in
    record { earlier = n.earlier; derivation = n.derivation; within = All-weaker (IsNear frame x) HasFewNodes (λ t a. few t a) (x ∷ n.earlier) n.near } where
      above_few : (t : Tree) → Contains (x ∷ frame) t → HasFewNodes t
      above_few t m = elim (cons_cases x frame t m) [ inl is ↦ subst HasFewNodes is size | inr k ↦ (fits t k).1 ]

      few : (t : Tree) → IsNear frame x t → HasFewNodes t
      few t a = let l = subterm_small t a.above a.stands in let h = above_few a.above a.among in omega (arith, l, h)

any_sized : (g : Sig) (s : SStep) → IsSized AnySize g s
any_sized g (short.Act s) = tt
any_sized g (short.In t u) = λ x h. tt
any_sized g (short.Send t) = tt
any_sized g (short.Know u) = λ x h. tt

few_sized : EqualityIsKept → SymbolsReduceOnce → LeavesAreNormal → FormIsOne → (g : Sig) (s : SStep) → IsShortStep s → IsSized HasFewNodes g s
few_sized kept once leaves one g (short.Act s) h = tt
few_sized kept once leaves one g (short.In t u) h = λ x f. (let a = forms_small kept once leaves (equations g) one (tree u) x f in let b = h.1 in omega (arith, a, b))
few_sized kept once leaves one g (short.Send t) h = tt
few_sized kept once leaves one g (short.Know u) h = λ x f. (let a = forms_small kept once leaves (equations g) one (tree u) x f in let b = h.1 in omega (arith, a, b))

pub short_runs_can_be_filled : FormIsOne → LinesThatAskTheSameDoTheSame AnySize → LegalShortRunsCanBeFilled
short_runs_can_be_filled one alike g p ss c tr marks h =
    let w = fill_run AnySize alike g (any_spared one g) p ss c tr marks (λ s m. any_sized g s) h in
    (w.lines, w.es, w.run)

pub small_runs_can_be_filled : FormIsOne → EqualityIsKept → SymbolsReduceOnce → LeavesAreNormal → DerivationsStayNear → LinesThatAskTheSameDoTheSame HasFewNodes → SmallShortRunsCanBeFilled
small_runs_can_be_filled one kept once leaves stay alike g p ss c tr marks builtins steps h =
    let w = fill_run HasFewNodes alike g (small_spared stay g builtins) p ss c tr marks (λ s m. few_sized kept once leaves one g s (All-contains IsShortStep ss s steps m)) h in
    (w.lines, w.es, w.run)
