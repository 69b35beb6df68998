-- The canonical text of an instance within the limits is read as that instance.
use Rattle.std.proofs.Common.{◌≡◌, ℕ, ◌≤◌, ◌^◌, true, false, cond, List, [], ◌∷◌, ◌++◌, length, pos, refl, sym, ap, ◌∙◌, subst, arith, append_assoc, append-nil, eqb}
use Rattle.std.specs.Prelude.{Result, Ok, fold, flat_map}
use Rattle.std.specs.List.{list_all}
use Rattle.std.proofs.lemmas.Bool.{and_parts, eqb-true}
use Rattle.tokens.specs.Text.{TextState, is_blank, text_start, after_token}
use Rattle.tokens.specs.Decimal.{decimal_of}
use Rattle.tokens.specs.Grammar.{times}
use Rattle.tokens.specs.Printed.{IsBefore, ReadsPart}
use Rattle.tokens.specs.declared.comment.Comment.TheVariants.{Never}
use Rattle.tokens.specs.declared.instance_error.InstanceError.{InstanceError}
use Rattle.tokens.proofs.Printing.{before_start, before_after, reads_natural, passes_natural, finishes, ends_line_LF, ends_line_number}
use Rattle.tokens.proofs.Repeats.{fold_pushes, times_reads}
use Rattle.knapsack.specs.declared.item.Item.{Item}
use Rattle.knapsack.specs.Instance.{Instance, is_small, is_small_item}
use Rattle.knapsack.specs.Limits.{IsSmallItem}
use Rattle.knapsack.specs.Laws.Limits.{is_small_item-is, is_small-is}
use Rattle.knapsack.specs.Reading.{copies_at, item_after, instance_at, instance_text}
use Rattle.knapsack.specs.Printing.{copies_text, line_of, text_of}

-- printed copies are read to the end of their line
record ReadsCopies (c : ℕ) (tail : List ℕ) (s : TextState) : Type 0 where
  following : TextState
  read : copies_at s ≡ Ok (c, following)
  before : IsBefore tail following
  comment_is : following.comment ≡ s.comment

copies_left_out : (c : ℕ) (tail : List ℕ) (s : TextState) → c ≡ 1 → s.rest ≡ 10 ∷ tail → ReadsCopies c tail s
unfolding copies_at
copies_left_out c tail s one at =
    let ends = ends_line_LF tail s at in
    record {
      following = s;
      read = rw ends (ap (λ (n : ℕ). let r : Result (ℕ × TextState) InstanceError = Ok (n, s) in r) (sym one));
      before = before_after 10 tail s refl at;
      comment_is = refl;
    }

copies_there : (c : ℕ) (tail : List ℕ) (s : TextState) → c ≤ 1000 → s.rest ≡ 32 ∷ (decimal_of (pos c) ++ (10 ∷ tail)) → ReadsCopies c tail s
unfolding copies_at
copies_there c tail s few at =
    let goes = ends_line_number (pos c) (10 ∷ tail) s (omega arith) at in
    let number = reads_natural c 0 1000 10 tail s (omega arith) few (omega arith) refl (before_after 32 (decimal_of (pos c) ++ (10 ∷ tail)) s refl at) in
    let ends = ends_line_LF tail (after_token s) number.rest_is in
    record {
      following = after_token s;
      read = rw (goes, number.value, ends) refl;
      before = before_after 10 tail (after_token s) refl number.rest_is;
      comment_is = number.comment_is;
    }

reads_copies : (c : ℕ) (tail : List ℕ) (s : TextState) → c ≤ 1000 → s.rest ≡ copies_text c ++ (10 ∷ tail) → ReadsCopies c tail s
reads_copies c tail s few at =
    elim (eqb c 1) as (λ b. eqb c 1 ≡ b → s.rest ≡ cond b [] (32 ∷ decimal_of (pos c)) ++ (10 ∷ tail) → ReadsCopies c tail s) [
      | true ↦ λ e here. copies_left_out c tail s (eqb-true _ _ e) here
      | false ↦ λ e here. copies_there c tail s few here
    ] refl at

-- a blank stands after the weight
record BlankNext (bytes : List ℕ) : Type 0 where
  blank : ℕ
  more : List ℕ
  is : bytes ≡ blank ∷ more
  is_blank : is_blank blank ≡ true

blank_after_weight : (c : ℕ) (tail : List ℕ) → BlankNext (copies_text c ++ (10 ∷ tail))
blank_after_weight c tail =
    elim (eqb c 1) as (λ b. BlankNext (cond b [] (32 ∷ decimal_of (pos c)) ++ (10 ∷ tail))) [
      | true ↦ record { blank = 10; more = tail; is = refl; is_blank = refl }
      | false ↦ record { blank = 32; more = decimal_of (pos c) ++ (10 ∷ tail); is = refl; is_blank = refl }
    ]

line_before : (x : Item) (tail : List ℕ) → line_of x ++ tail ≡ decimal_of (pos x.profit) ++ (32 ∷ (decimal_of (pos x.weight) ++ (copies_text x.copies ++ (10 ∷ tail))))
line_before x tail = simp append_assoc

-- a printed item is read
reads_item : (x : Item) (made : List Item) (tail : List ℕ) (s : TextState) → IsSmallItem x → IsBefore (line_of x ++ tail) s → ReadsPart item_after made (made ++ (x ∷ [])) tail s
unfolding item_after
reads_item x made tail s small before =
    let blank = blank_after_weight x.copies tail in
    let ahead = subst (λ (bytes : List ℕ). IsBefore bytes s) (line_before x tail) before in
    let profit = passes_natural x.profit 0 1000000000 32 (decimal_of (pos x.weight) ++ (copies_text x.copies ++ (10 ∷ tail))) s (omega arith) small.profit (omega arith) refl ahead in
    let t = after_token s in
    let rest = subst (λ (bytes : List ℕ). IsBefore (decimal_of (pos x.weight) ++ bytes) t) blank.is profit.before in
    let weight = reads_natural x.weight 0 1000000000 blank.blank blank.more t (omega arith) small.weight (omega arith) blank.is_blank rest in
    let u = after_token t in
    let copies = reads_copies x.copies tail u small.copies (weight.rest_is ∙ sym blank.is) in
    record {
      following = copies.following;
      read = rw (profit.value, weight.value, copies.read) refl;
      before = copies.before;
      comment_is = copies.comment_is ∙ (weight.comment_is ∙ profit.comment_is);
    }

abbrev AllSmall : List Item → List Item → Type 0
AllSmall made xs = list_all is_small_item xs ≡ true

-- the lines of the items are read
reads_items : (xs : List Item) (s : TextState) → list_all is_small_item xs ≡ true → IsBefore (flat_map line_of xs ++ []) s → ReadsPart (times item_after (length xs)) [] (fold (λ items x. items ++ (x ∷ [])) [] xs) [] s
reads_items xs s small before =
    times_reads item_after line_of (λ items x. items ++ (x ∷ [])) s.comment AllSmall
    (λ x rest made tail t held same ahead. let parts = and_parts _ _ held in (reads_item x made tail t (is_small_item-is x parts.0) ahead, parts.1))
    xs [] [] s small refl before

-- the canonical text is read as the instance
pub reads_back : (i : Instance) → is_small i ≡ true → instance_text (text_of i) ≡ Ok i
unfolding instance_at
reads_back i h =
    let small = is_small-is i h in
    let lines = flat_map line_of i.items in
    let s = text_start Never (text_of i) in
    let count = passes_natural (length i.items) 0 1000 32 (decimal_of (pos i.capacity) ++ (10 ∷ lines)) s (omega arith) small.count (omega arith) refl (before_start Never (text_of i)) in
    let t = after_token s in
    let capacity = passes_natural i.capacity 0 (2 ^ 40) 10 lines t (omega arith) small.capacity (omega arith) refl count.before in
    let u = after_token t in
    let ahead = subst (λ (bytes : List ℕ). IsBefore bytes u) (sym (append-nil lines)) capacity.before in
    let items = reads_items i.items u small.items ahead in
    let ends = finishes items.following items.before in
    rw (count.value, capacity.value, items.read, ends)
    (ap (λ (l : List Item). let r : Result Instance InstanceError = Ok (record { capacity = i.capacity; items = l }) in r) (fold_pushes i.items []))
