-- The spans of heads: at a place, and where a further head is put after.
use Rattle.std.proofs.Common.{◌≡◌, ℕ, zero, suc, ◌-◌, ◌<◌, Bool, ℤ, List, [], ◌∷◌, ◌++◌, length, slice_get, Option, Some, None, refl, ◌∙◌, ap, subst, arith}
use Rattle.dp_laws.proofs.Diagrams.Places.{same-Some}
use Rattle.bound_cover.specs.declared.storing.Head.{Head}
use Rattle.bound_cover.specs.declared.storing.Span.{Span}
use Rattle.bound_cover.specs.Stored.{span_of, spans_from, spans, end_of_words, end_of_arcs, BeginsAt}
use Rattle.bound_cover.proofs.Blocks.{head_after}

pub length-spans : (w a : ℕ) (heads : List Head) → length (spans_from w a heads) ≡ length heads
length-spans w a [] = refl
length-spans w a (head ∷ heads) = ap suc (length-spans head.words_to head.arcs_to heads)

-- ---- a further head

following-from : (w a : ℕ) (heads : List Head) (head : Head) → spans_from w a (heads ++ head ∷ []) ≡ spans_from w a heads ++ span_of (end_of_words w heads) (end_of_arcs a heads) head ∷ []
following-from w a [] head = refl
following-from w a (first ∷ heads) head = ap (λ l. span_of w a first ∷ l) (following-from first.words_to first.arcs_to heads head)

words-following : (w : ℕ) (heads : List Head) (head : Head) → end_of_words w (heads ++ head ∷ []) ≡ head.words_to
words-following w [] head = refl
words-following w (first ∷ heads) head = words-following first.words_to heads head

arcs-following : (a : ℕ) (heads : List Head) (head : Head) → end_of_arcs a (heads ++ head ∷ []) ≡ head.arcs_to
arcs-following a [] head = refl
arcs-following a (first ∷ heads) head = arcs-following first.arcs_to heads head

-- the head shows such a span, wherever its words and arcs begin
abbrev pub Shows : Option ℤ → Bool → ℕ → ℕ → Head → Type 0
Shows bound has_arcs words_to arcs_to head = (words_from arcs_from : ℕ) → span_of words_from arcs_from head ≡ head_after bound has_arcs words_from words_to arcs_from arcs_to

pub spans-following : (heads : List Head) (head : Head) (bound : Option ℤ) (has_arcs : Bool) (w words_to a arcs_to : ℕ) → BeginsAt w a heads → Shows bound has_arcs words_to arcs_to head
    → spans (heads ++ head ∷ []) ≡ spans heads ++ head_after bound has_arcs w words_to a arcs_to ∷ []
spans-following heads head bound has_arcs w words_to a arcs_to at shows =
    following-from 0 0 heads head
    ∙ (ap (λ (n : ℕ). spans heads ++ span_of n (end_of_arcs 0 heads) head ∷ []) at.words_at
    ∙ (ap (λ (n : ℕ). spans heads ++ span_of w n head ∷ []) at.arcs_at
    ∙ ap (λ (s : Span). spans heads ++ s ∷ []) (shows w a)))

pub begins-following : (heads : List Head) (head : Head) (bound : Option ℤ) (has_arcs : Bool) (words_to arcs_to : ℕ) → Shows bound has_arcs words_to arcs_to head → BeginsAt words_to arcs_to (heads ++ head ∷ [])
begins-following heads head bound has_arcs words_to arcs_to shows = record {
  words_at = words-following 0 heads head ∙ ap (λ (s : Span). s.words_to) (shows 0 0);
  arcs_at = arcs-following 0 heads head ∙ ap (λ (s : Span). s.arcs_to) (shows 0 0);
}

-- ---- the span at a place

none-from : (w a : ℕ) (heads : List Head) (i : ℕ) → slice_get heads i ≡ None → slice_get (spans_from w a heads) i ≡ None
none-from w a [] i h = refl
none-from w a (first ∷ heads) zero h = absurd (cc)
none-from w a (first ∷ heads) (suc i) h = none-from first.words_to first.arcs_to heads i h

first-from : (w a : ℕ) (heads : List Head) (head : Head) → slice_get heads 0 ≡ Some head → slice_get (spans_from w a heads) 0 ≡ Some (span_of w a head)
first-from w a [] head h = absurd (cc)
first-from w a (first ∷ heads) head h = ap (λ (f : Head). Some (span_of w a f)) (same-Some first head h)

next-from : (w a : ℕ) (heads : List Head) (i : ℕ) (before head : Head) → slice_get heads i ≡ Some before → slice_get heads (suc i) ≡ Some head
    → slice_get (spans_from w a heads) (suc i) ≡ Some (span_of before.words_to before.arcs_to head)
next-from w a [] i before head b h = absurd (cc)
next-from w a (first ∷ heads) zero before head b h =
    first-from first.words_to first.arcs_to heads head h ∙ ap (λ (f : Head). Some (span_of f.words_to f.arcs_to head)) (same-Some first before b)
next-from w a (first ∷ heads) (suc i) before head b h = next-from first.words_to first.arcs_to heads i before head b h

-- as the code finds it
pub none_at : (heads : List Head) (i : ℕ) → slice_get heads i ≡ None → slice_get (spans heads) i ≡ None
none_at heads i h = none-from 0 0 heads i h

pub first_at : (heads : List Head) (head : Head) → slice_get heads 0 ≡ Some head → slice_get (spans heads) 0 ≡ Some (span_of 0 0 head)
first_at heads head h = first-from 0 0 heads head h

pub next_at : (heads : List Head) (i : ℕ) (before head : Head) → 0 < i → slice_get heads (i - 1) ≡ Some before → slice_get heads i ≡ Some head → slice_get (spans heads) i ≡ Some (span_of before.words_to before.arcs_to head)
next_at heads zero before head some b h = absurd (omega arith)
next_at heads (suc i) before head some b h = let e : suc i - 1 ≡ i = omega arith in next-from 0 0 heads i before head (subst (λ n. slice_get heads n ≡ Some before) e b) h

pub ruleset span_steps = (none_at, first_at, next_at)
