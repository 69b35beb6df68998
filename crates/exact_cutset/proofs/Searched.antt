-- The search for the first exact node.
use Rattle.std.proofs.Common.{◌≡◌, ℕ, suc, zero, ◌+◌, ◌<◌, Bool, true, false, cond, List, [], ◌∷◌, length, drop, slice_get, Some, None, option_map, refl, sym, ◌∙◌, ap, arith}
use Rattle.dp_laws.specs.Diagrams.Nodes.{DdNode}
use Rattle.dp_laws.specs.Diagrams.Cutsets.{first_exact}
use Rattle.dp_laws.proofs.Diagrams.Places.{same-Some}
use Rattle.exact_cutset.specs.Seen.{solution_of}
use Rattle.exact_cutset.specs.Ready.{IsFirstExact}

drop-next : (xs : List DdNode) (i : ℕ) (x : DdNode) → slice_get xs i ≡ Some x → drop i xs ≡ x ∷ drop (suc i) xs
drop-next [] i x e = absurd (let none : None ≡ Some x = e in cc)
drop-next (y ∷ ys) zero x e = ap (λ z. z ∷ ys) (same-Some y x e)
drop-next (y ∷ ys) (suc i) x e = drop-next ys i x e

pub drop-at : (xs : List DdNode) (i : ℕ) (x : DdNode) → slice_get xs i ≡ Some x → drop i xs ≡ x ∷ drop (i + 1) xs
drop-at xs i x e = let next : suc i ≡ i + 1 = omega arith in drop-next xs i x e ∙ ap (λ n. x ∷ drop n xs) next

pub there : {X : Type 0} (xs : List X) (i : ℕ) → i < length xs → (x : X) × (slice_get xs i ≡ Some x)
there [] i less = absurd (omega arith)
there (x ∷ xs) zero less = (x, refl)
there (x ∷ xs) (suc i) less = there xs i (omega arith)

-- the first of what is left, by whether its first one is exact
first-of : (layer : List DdNode) (i : ℕ) (x : DdNode) (b : Bool) → slice_get layer i ≡ Some x → x.exact ≡ b → first_exact (drop i layer) ≡ cond b (Some (solution_of x)) (first_exact (drop (i + 1) layer))
first-of layer i x b at e = ap first_exact (drop-at layer i x at) ∙ ap (λ b. cond b (Some (solution_of x)) (first_exact (drop (i + 1) layer))) e

exact-is : (layer : List DdNode) (i : ℕ) (x : DdNode) (b : Bool) → slice_get layer i ≡ Some x → option_map (λ (n : DdNode). n.exact) (slice_get layer i) ≡ Some b → x.exact ≡ b
exact-is layer i x b at e = same-Some x.exact b (sym (ap (option_map (λ (n : DdNode). n.exact)) at) ∙ e)

pub is-first : (layer : List DdNode) (i : ℕ) → i < length layer → option_map (λ (n : DdNode). n.exact) (slice_get layer i) ≡ Some true → first_exact (drop i layer) ≡ first_exact layer → IsFirstExact layer i
is-first layer i less e h =
    let x = there layer i less in
    let exact = exact-is layer i x.0 true x.1 e in
    record { node = x.0; at = x.1; exact = exact; first = sym h ∙ first-of layer i x.0 true x.1 exact }

pub first-further : (layer : List DdNode) (i : ℕ) → i < length layer → option_map (λ (n : DdNode). n.exact) (slice_get layer i) ≡ Some false → first_exact (drop i layer) ≡ first_exact layer → first_exact (drop (i + 1) layer) ≡ first_exact layer
first-further layer i less e h =
    let x = there layer i less in
    sym (first-of layer i x.0 false x.1 (exact-is layer i x.0 false x.1 e)) ∙ h
