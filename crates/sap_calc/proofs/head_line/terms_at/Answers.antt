use Rattle.sap_calc.proofs.head_line.terms_at.Goals as goal

pub returns-in-None : goal.returns-in-None
returns-in-None c = λ t. rw c.in-Agree.is (c.in-None.ensures.0 t)

pub returns-in-None-test : goal.returns-in-None-test
returns-in-None-test c = λ t. rw c.in-Differ.is (c.in-None-test.ensures.1 t)

pub returns-in-None-insertion : goal.returns-in-None-insertion
returns-in-None-insertion c = λ t. rw c.in-Store.is (c.in-None-insertion.ensures t)

pub returns-in-None-deletion : goal.returns-in-None-deletion
returns-in-None-deletion c = λ t. rw c.in-Clear.is (c.in-None-deletion.ensures t)

pub returns-in-None-lookup : goal.returns-in-None-lookup
returns-in-None-lookup c = λ t. rw c.in-Miss.is (c.in-None-lookup.ensures.1 t)

pub returns-in-None-locking : goal.returns-in-None-locking
returns-in-None-locking c = λ t. rw c.in-Hold.is (c.in-None-locking.ensures t)

pub returns-in-None-unlocking : goal.returns-in-None-unlocking
returns-in-None-unlocking c = λ t. rw c.in-Release.is (c.in-None-unlocking.ensures t)
