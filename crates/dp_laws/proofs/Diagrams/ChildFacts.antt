-- What a child keeps of its node: a prefix of its own, and a bound that is held.
use Rattle.std.proofs.Common.{◌≡◌, ℕ, ◌<◌, ℤ, ◌+ℤ◌, ◌≤ℤ◌, int_le, true, false, cond, List, ◌++◌, length, take, drop, Option, Some, None, option_map, ◌⊎◌, inl, inr, IsTrue, refl, sym, ◌∙◌, ap, subst, arith}
use Rattle.std.proofs.lemmas.Int.{ints}
use Rattle.std.proofs.lemmas.List.{take-append-drop}
use Rattle.dp_model.specs.Dp.{Dp}
use Rattle.dp_model.specs.Cover.{IsHeld}
use Rattle.dp_model.specs.Decisions.{begins}
use Rattle.dp_model.specs.Gaps.{IsStateOf}
use Rattle.dp_model.specs.Laws.{IsLawful}
use Rattle.dp_model.specs.Numbers.{AtMost}
use Rattle.dp_model.specs.Prefixes.{IsContinuation, IsCompletion, Reaches, gain_of, state_of, value_of}
use Rattle.dp_model.specs.Subproblem.{Subproblem, IsChild}
use Rattle.dp_model.proofs.Paths.{continued, value_of-split, completed, value_of-append}
use Rattle.dp_model.proofs.RowLemmas.{begins-append}
use Rattle.dp_laws.specs.Diagrams.Nodes.{DdNode}
use Rattle.dp_laws.specs.Diagrams.Seen.{IsBounded, IsReachedBy}
use Rattle.dp_laws.specs.Diagrams.Cutsets.{lesser_of}
use Rattle.dp_laws.proofs.Diagrams.Children.{child_of}
use Rattle.dp_laws.proofs.Diagrams.Places.{same-Some}
use Rattle.dp_laws.proofs.Diagrams.Suffixes.{at_most-below}

-- What a child is of its node.

pub record IsChildOf (dp : Dp) (k : ℕ) (node : DdNode) (c : Subproblem) : Type 0 where
  pub suffix : ℤ
  pub rough : ℤ
  pub suffix_is : node.suffix ≡ Some suffix
  pub rough_is : dp.rough k node.row ≡ Some rough
  pub child_is : c ≡ record { decisions = node.path; row = node.row; value = node.value; bound = node.value +ℤ cond (int_le suffix rough) suffix rough }

from-options : (dp : Dp) (k : ℕ) (node : DdNode) (c : Subproblem) (s r : Option ℤ) → node.suffix ≡ s → dp.rough k node.row ≡ r
    → option_map (λ more. record { decisions = node.path; row = node.row; value = node.value; bound = node.value +ℤ more }) (lesser_of s r) ≡ Some c → IsChildOf dp k node c
from-options dp k node c None r se re e = absurd (let none : None ≡ Some c = e in cc)
from-options dp k node c (Some s) None se re e = absurd (let none : None ≡ Some c = e in cc)
from-options dp k node c (Some s) (Some r) se re e = record {
  suffix = s;
  rough = r;
  suffix_is = se;
  rough_is = re;
  child_is = sym (same-Some (record { decisions = node.path; row = node.row; value = node.value; bound = node.value +ℤ cond (int_le s r) s r }) c e);
}

pub child-from : (dp : Dp) (k : ℕ) (node : DdNode) (c : Subproblem) → child_of dp k node ≡ Some c → IsChildOf dp k node c
child-from dp k node c e = from-options dp k node c node.suffix (dp.rough k node.row) refl refl e

-- a node with a suffix and a rough bound has a child
pub child-for : (dp : Dp) (k : ℕ) (node : DdNode) (s r : ℤ) → node.suffix ≡ Some s → dp.rough k node.row ≡ Some r
    → child_of dp k node ≡ Some (record { decisions = node.path; row = node.row; value = node.value; bound = node.value +ℤ cond (int_le s r) s r })
child-for dp k node s r se re = rw (se, re) refl

-- A child of an exact node is a child of the prefix.

pub begins-by : (p x : List ℕ) → take (length p) x ≡ p → IsTrue (begins p x)
begins-by p x e =
    let whole : x ≡ p ++ drop (length p) x = sym (take-append-drop (length p) x) ∙ ap (λ l. l ++ drop (length p) x) e in
    subst (λ y. IsTrue (begins p y)) (sym whole) (begins-append p (drop (length p) x))

pub is-child : (dp : Dp) (p : List ℕ) (k : ℕ) (node : DdNode) (c : Subproblem) → IsReachedBy dp p k node → IsChildOf dp k node c → length p < k → k < dp.vars → IsChild dp p c
is-child dp p k node c r h deep short =
    subst (λ x. IsChild dp p x) (sym h.child_is) (record {
      own = record { prefix = r.prefix; row = r.row; value = r.value; shorter = (let long = r.depth in omega arith) };
      extends = begins-by p node.path r.begins;
      deeper = (let long = r.depth in omega arith);
    })

-- its bound is held

pub rests : (dp : Dp) (k : ℕ) (node : DdNode) (p x : List ℕ) → IsReachedBy dp p k node → (h : IsCompletion dp node.path x) → IsContinuation dp k node.row h.rest × (value_of dp x ≡ node.value +ℤ gain_of dp k node.row h.rest)
rests dp k node p x r h =
    let at : IsContinuation dp (length node.path) (state_of dp node.path) h.rest = continued dp node.path x h in
    let path = subst (λ s. IsContinuation dp k s h.rest) (sym r.row) (subst (λ n. IsContinuation dp n (state_of dp node.path) h.rest) r.depth at) in
    let split : value_of dp x ≡ value_of dp node.path +ℤ gain_of dp (length node.path) (state_of dp node.path) h.rest = value_of-split dp node.path x h in
    let gains : gain_of dp (length node.path) (state_of dp node.path) h.rest ≡ gain_of dp k node.row h.rest =
    ap (λ n. gain_of dp n (state_of dp node.path) h.rest) r.depth ∙ ap (λ s. gain_of dp k s h.rest) (sym r.row) in
    (path, split ∙ (ap (λ z. z +ℤ gain_of dp (length node.path) (state_of dp node.path) h.rest) (sym r.value) ∙ ap (λ z. node.value +ℤ z) gains))

within-lesser : (value gain s r : ℤ) → gain ≤ℤ s → gain ≤ℤ r → (value +ℤ gain) ≤ℤ (value +ℤ cond (int_le s r) s r)
within-lesser value gain s r a b = elim (int_le s r) as (λ t. (value +ℤ gain) ≤ℤ (value +ℤ cond t s r)) [ true ↦ omega (arith, ints) | false ↦ omega (arith, ints) ]

pub is-held : (dp : Dp) → IsLawful dp → (p : List ℕ) (t : Option ℤ) (k : ℕ) (node : DdNode) (c : Subproblem) → IsReachedBy dp p k node → IsStateOf dp k node.row → IsChildOf dp k node c
    → ((rest : List ℕ) → IsContinuation dp k node.row rest → IsBounded t node (gain_of dp k node.row rest)) → IsHeld dp t c.decisions c.bound
is-held dp laws p t k node c r state h bounds =
    let Held : Subproblem → Type 0 = λ y. IsHeld dp t y.decisions y.bound in
    subst Held (sym h.child_is) (λ x completion.
    let cont = rests dp k node p x r completion in
    let rough : AtMost (gain_of dp k node.row completion.rest) (Some h.rough) = subst (λ o. AtMost (gain_of dp k node.row completion.rest) o) h.rough_is (laws.rough.bounds k node.row completion.rest state cont.0) in
    elim (bounds completion.rest cont.0) as (λ _. (value_of dp x ≤ℤ (node.value +ℤ cond (int_le h.suffix h.rough) h.suffix h.rough)) ⊎ AtMost (value_of dp x) t) [
      | inl low ↦ inr (subst (λ z. AtMost z t) (sym cont.1) low)
      | inr low ↦ (let suffix : AtMost (gain_of dp k node.row completion.rest) (Some h.suffix) = subst (λ o. AtMost (gain_of dp k node.row completion.rest) o) h.suffix_is low in
          inl (subst (λ z. z ≤ℤ (node.value +ℤ cond (int_le h.suffix h.rough) h.suffix h.rough)) (sym cont.1) (within-lesser node.value (gain_of dp k node.row completion.rest) h.suffix h.rough suffix rough)))
    ])

-- A continuation from an exact node is matched by the node's child.

-- the node's child reaches the number
pub record MatchedBy (dp : Dp) (k : ℕ) (node : DdNode) (least : ℤ) : Type 0 where
  pub child : Subproblem
  pub is : child_of dp k node ≡ Some child
  pub reaches : Reaches dp least child.decisions

reaches-along : (dp : Dp) (p : List ℕ) (k : ℕ) (node : DdNode) (by : List ℕ) (least : ℤ) → IsReachedBy dp p k node → IsContinuation dp k node.row by → least ≤ℤ (node.value +ℤ gain_of dp k node.row by) → Reaches dp least node.path
reaches-along dp p k node by least r path enough =
    let at : IsContinuation dp (length node.path) (state_of dp node.path) by = subst (λ n. IsContinuation dp n (state_of dp node.path) by) (sym r.depth) (subst (λ s. IsContinuation dp k s by) r.row path) in
    let sum : value_of dp (node.path ++ by) ≡ value_of dp node.path +ℤ gain_of dp (length node.path) (state_of dp node.path) by = value_of-append dp node.path by in
    let gains : gain_of dp (length node.path) (state_of dp node.path) by ≡ gain_of dp k node.row by =
    ap (λ n. gain_of dp n (state_of dp node.path) by) r.depth ∙ ap (λ s. gain_of dp k s by) (sym r.row) in
    let value = r.value in
    record { by = node.path ++ by; completion = completed dp node.path by r.prefix at; least = omega (arith, ints) }

matched-with : (dp : Dp) (p : List ℕ) (t : Option ℤ) (k : ℕ) (node : DdNode) (by : List ℕ) (least : ℤ) (s r : Option ℤ) → IsReachedBy dp p k node → IsContinuation dp k node.row by → least ≤ℤ (node.value +ℤ gain_of dp k node.row by)
    → node.suffix ≡ s → dp.rough k node.row ≡ r → AtMost (gain_of dp k node.row by) s → AtMost (gain_of dp k node.row by) r → MatchedBy dp k node least
matched-with dp p t k node by least None r reached path enough se re low rough = absurd low
matched-with dp p t k node by least (Some s) None reached path enough se re low rough = absurd rough
matched-with dp p t k node by least (Some s) (Some r) reached path enough se re low rough = record {
  child = record { decisions = node.path; row = node.row; value = node.value; bound = node.value +ℤ cond (int_le s r) s r };
  is = child-for dp k node s r se re;
  reaches = reaches-along dp p k node by least reached path enough;
}

pub matched : (dp : Dp) → IsLawful dp → (p : List ℕ) (t : Option ℤ) (k : ℕ) (node : DdNode) (by : List ℕ) (least : ℤ) → IsReachedBy dp p k node → IsStateOf dp k node.row → IsContinuation dp k node.row by
    → least ≤ℤ (node.value +ℤ gain_of dp k node.row by) → IsBounded t node (gain_of dp k node.row by) → AtMost least t ⊎ MatchedBy dp k node least
matched dp laws p t k node by least r state path enough (inl low) = inl (at_most-below least (node.value +ℤ gain_of dp k node.row by) t enough low)
matched dp laws p t k node by least r state path enough (inr low) =
    inr (matched-with dp p t k node by least node.suffix (dp.rough k node.row) r path enough refl refl low (laws.rough.bounds k node.row by state path))
