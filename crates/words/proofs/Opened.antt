-- From what opening a head finds to what it says of the words. Assumes nothing.
use Rattle.std.proofs.Common.{◌≡◌, ℕ, true, false, suc, ◌≤◌, List, [], ◌∷◌, ◌++◌, Ok, Err, Result, sym, ap, ◌∙◌, subst, lit≤, Bor, arith}
use Rattle.correlation.specs.Tables.{LawfulAbove, above_count}
use Rattle.std.specs.Result.{is_ok}
use Rattle.refusals.specs.declared.Refusal.{Refusal}
use Rattle.correlation.specs.declared.table.Table.{Table}
use Rattle.words.specs.Cursors.{IsBehind}
use Rattle.words.specs.Faults.{Begins, EntryFault, WordFault, HeadFault}
use Rattle.words.specs.Heads.{Head, HeadInRange, HeadLawful, of_root}
use Rattle.words.specs.Items.{FirstItem, OwnFirst, Shows, TableOf, values}
use Rattle.words.specs.Steps.{NoWord, Opening, RootOpening}
use Rattle.words.specs.Words.{ValueInRange, word, root_kind, most_depth}
use Rattle.words.specs.declared.cursor.Cursor.{Cursor}
use Rattle.words.specs.declared.item.Item.{Item}
use Rattle.words.specs.declared.item.Item.TheVariants.{Root}
use Rattle.words.specs.declared.kind.Kind.TheVariants.{Line, Sum, Greater}
use Rattle.words.specs.declared.kind.Kind.TheVariants as kinds
use Rattle.words.proofs.Parts.{place_behind, root_in_range, entered_values}
use Rattle.words.proofs.Heading.{headed, opens_more, opens_unique}
use Rattle.words.proofs.OneFault.{head_sound}

-- no word at all is no head
pub no_head : (depth place : ℕ) (ws : List ℕ) (e : Refusal) → NoWord place ws e → HeadFault depth place ws e
no_head depth place ws e (NoWord.ends empty b) = HeadFault.ends empty b
no_head depth place ws e (NoWord.kind k v rest begins other b) =
    HeadFault.word k v rest begins (WordFault.kind (λ of. omega (arith, of.0, of.1, other Line, other Sum, other Greater, other kinds.Root)) b)

pub root_opened : (depth n : ℕ) (from behind : Cursor) (r : Result (Item × Cursor) Refusal) → Begins from.words.now root_kind n behind.words.now → IsBehind from behind → ValueInRange root_kind n → depth ≤ most_depth
    → RootOpening n behind r → Opening depth from r
root_opened depth n from behind (Ok p) begins next range shallow o =
    let few = root_in_range n range in
    (of_root n o.0, record { shallow = shallow; words = begins.words ∙ ap (λ x. word root_kind n ∷ x) o.2; in_range = (few.0, few.1, o.1) }, o.3, o.4 ∙ next)
root_opened depth n from behind (Err e) begins next range shallow o =
    let at : behind.place ≡ suc from.place = omega (arith, place_behind from behind (word root_kind n ∷ []) begins.words next) in
    HeadFault.entries n behind.words.now begins range shallow (subst (λ p. EntryFault (above_count n) p behind.words.now e) at o)

-- words that begin with a branch of a tree open as that tree's item
pub own_first : (ws : List ℕ) (r : Result Item Refusal) → FirstItem ws r → OwnFirst ws r
own_first ws (Ok item) o t depth bs behind e b =
    let own = headed t depth bs b in
    let same = opens_unique o.2 (opens_more ws behind own.opens e) in
    (own.head, own.forest, own.rest, own.of, own.branches, subst (λ x. Shows item x (own.rest ++ behind)) same.0 (subst (Shows item o.0) same.1 o.3))
own_first ws (Err e) o t depth bs behind w b =
    let own = opens_more ws behind (headed t depth bs b).opens w in
    head_sound (record { shallow = lit≤ tt; words = own.words; in_range = own.in_range }) o

pub lawful_made : (n : ℕ) (ws : List ℕ) (r : Result Table Refusal) → TableOf n ws r → true ≡ is_ok r → LawfulAbove n (values ws)
lawful_made n ws (Ok t) made ok = made.0
lawful_made n ws (Err e) made ok = absurd cc

pub unlawful_refused : (n : ℕ) (ws : List ℕ) (r : Result Table Refusal) → TableOf n ws r → false ≡ is_ok r → LawfulAbove n (values ws) → ⊥
unlawful_refused n ws (Ok t) made err = absurd cc
unlawful_refused n ws (Err e) made err = made.0

-- the values of the entries of a root are those of its head
shown_entries : (item : Item) (n : ℕ) (es bs : Bor (List ℕ)) → item ≡ Root n es bs → (h : Head) (ws : List ℕ) → HeadInRange h → Shows item h ws → h ≡ of_root n (values es.now)
shown_entries item n es bs is h ws range shown =
    let shows = subst (λ x. Shows x h ws) is shown in
    let known = subst HeadInRange shows.1 range in
    let same : values es.now ≡ shows.0 = ap values shows.2 ∙ entered_values _ shows.0 known.2 in
    shows.1 ∙ ap (of_root n) (sym same)

pub shown_lawful : (item : Item) (n : ℕ) (es bs : Bor (List ℕ)) → item ≡ Root n es bs → LawfulAbove n (values es.now) → (h : Head) (ws : List ℕ) → HeadInRange h → Shows item h ws → HeadLawful h
shown_lawful item n es bs is law h ws range shows = subst HeadLawful (sym (shown_entries item n es bs is h ws range shows)) law

pub shown_unlawful : (item : Item) (n : ℕ) (es bs : Bor (List ℕ)) → item ≡ Root n es bs → (LawfulAbove n (values es.now) → ⊥) → (h : Head) (ws : List ℕ) → HeadInRange h → Shows item h ws → HeadLawful h → ⊥
shown_unlawful item n es bs is other h ws range shows law = other (subst HeadLawful (shown_entries item n es bs is h ws range shows) law)
