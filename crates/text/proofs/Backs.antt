-- What is written is read as it was, for the laws. Assumes nothing.
use Rattle.std.proofs.Common.{◌≡◌, ℕ, zero, suc, ◌+◌, ◌*◌, ◌/◌, ◌%◌, ◌^◌, ◌<◌, List, [], ◌∷◌, ◌++◌, Some, codes, decimal as figures, Option, sym, refl, ap, ◌∙◌, arith, lit<}
use Rattle.std.specs.Option.{option_map}
use Rattle.std.specs.Str.Iter.{LacksByte}
use Rattle.std.specs.Int.{IsInRange}
use Rattle.std.proofs.lemmas.Fmt.{digits_decimal, digits_value-decimal, decimal_nonempty, length-decimal-le}
use Rattle.std.proofs.lemmas.Str.Parse.{not_in_digits}
use Rattle.std.proofs.lemmas.Bool.Decides.{nat_tests}
use Rattle.text.specs.declared.lines.Command.TheVariants.{Table, Put, Away, Look, Beneath, Nodes}
use Rattle.text.specs.declared.lines.Line.TheVariants.{Command as Asks}
use Rattle.text.specs.Commands.{ordered, both, prefix, routed, put, asked, reads}
use Rattle.text.specs.Dots.{dots}
use Rattle.text.specs.Fields.{fields, only}
use Rattle.text.specs.Laws.{DottedRoundTrip, CommandRoundTrip}
use Rattle.text.specs.Numerals.{digits, decimal, octet, joined, quad, dotted}
use Rattle.text.proofs.Cuts.{lacks_rest, fields_whole, fields_cut}
use Rattle.text.proofs.Digits.{own, octet_is}

-- a byte that neither of two texts has
lacks_append : (c : ℕ) (xs ys : List ℕ) → LacksByte c xs → LacksByte c ys → LacksByte c (xs ++ ys)
lacks_append c [] ys h i k l e = i k l e
lacks_append c (x ∷ xs) ys h i zero l e = h 0 (omega arith) e
lacks_append c (x ∷ xs) ys h i (suc k) l e = lacks_append c xs ys (lacks_rest c x xs h) i k (omega arith) e

-- figures have only digits
figures_lack : (c n : ℕ) → (IsInRange 48 57 c → ⊥) → n < 2 ^ 64 → LacksByte c (figures n)
figures_lack c n h l = not_in_digits own (figures n) c (digits_decimal own n l) h

decimal_back : (n : ℕ) → n < 2 ^ 64 → decimal (figures n) ≡ Some n
unfolding decimal digits
decimal_back n l =
    let d = digits_decimal own n l in
    let v = digits_value-decimal own n l in
    let s = decimal_nonempty n l in
    grind (arith, nat_tests)

octet_back : (n : ℕ) → n < 256 → octet (figures n) ≡ Some n
octet_back n l = let m : n < 2 ^ 64 = omega arith in sym (octet_is (figures n) n (sym (decimal_back n m)) (length-decimal-le 3 n (lit< tt) (omega arith) m) (omega arith))

-- a dot behind figures
dot_cut : (n : ℕ) (ys : List ℕ) → n < 256 → fields 46 (figures n ++ (46 ∷ ys)) ≡ figures n ∷ fields 46 ys
dot_cut n ys l = fields_cut 46 (figures n) ys (figures_lack 46 n (λ i. omega arith) (omega arith))

four_back : (a b c d : ℕ) → a < 256 → b < 256 → c < 256 → d < 256
    → quad (fields 46 (figures a ++ (46 ∷ (figures b ++ (46 ∷ (figures c ++ (46 ∷ figures d))))))) ≡ Some (a * 16777216 + b * 65536 + c * 256 + d)
unfolding joined
four_back a b c d h i j k =
    let e : fields 46 (figures a ++ (46 ∷ (figures b ++ (46 ∷ (figures c ++ (46 ∷ figures d)))))) ≡ figures a ∷ figures b ∷ figures c ∷ figures d ∷ []
    = dot_cut a _ h ∙ ap (λ (l : List (List ℕ)). figures a ∷ l) (dot_cut b _ i ∙ ap (λ (l : List (List ℕ)). figures b ∷ l) (dot_cut c _ j ∙ ap (λ (l : List (List ℕ)). figures c ∷ l) (fields_whole 46 (figures d) (figures_lack 46 d (λ i. omega arith) (omega arith))))) in
    ap quad e ∙ rw (octet_back a h, octet_back b i, octet_back c j, octet_back d k)

-- four bytes make up their number
bytes_back : (x : ℕ) → x < 2 ^ 32 → x / 16777216 % 256 * 16777216 + x / 65536 % 256 * 65536 + x / 256 % 256 * 256 + x % 256 ≡ x
bytes_back x h =
    let a : x / 65536 ≡ x / 256 / 256 = omega arith in
    let b : x / 16777216 ≡ x / 65536 / 256 = omega arith in
    rw (b, a) (omega arith)

pub dotted_back : DottedRoundTrip
unfolding dotted dots
dotted_back x h =
    four_back (x / 16777216 % 256) (x / 65536 % 256) (x / 256 % 256) (x % 256) (omega arith) (omega arith) (omega arith) (omega arith)
    ∙ ap (λ (n : ℕ). Some n) (bytes_back x h)

-- what is written has no space, so it is one word
figures_word : (n : ℕ) → n < 2 ^ 64 → LacksByte 32 (figures n)
figures_word n h = figures_lack 32 n (λ i. omega arith) h

dot_word : LacksByte 32 (codes ".")
dot_word zero l e = omega arith
dot_word (suc k) l e = omega arith

dots_word : (x : ℕ) → LacksByte 32 (dots x)
unfolding dots
dots_word x =
    lacks_append 32 (figures (x / 16777216 % 256)) _ (figures_word (x / 16777216 % 256) (omega arith))
    (lacks_append 32 (codes ".") _ dot_word
    (lacks_append 32 (figures (x / 65536 % 256)) _ (figures_word (x / 65536 % 256) (omega arith))
    (lacks_append 32 (codes ".") _ dot_word
    (lacks_append 32 (figures (x / 256 % 256)) _ (figures_word (x / 256 % 256) (omega arith))
    (lacks_append 32 (codes ".") _ dot_word (figures_word (x % 256) (omega arith)))))))

-- a prefix that is written, and a route
prefix_words : (bits len : ℕ) → len < 2 ^ 64 → fields 32 (dots bits ++ (32 ∷ figures len)) ≡ dots bits ∷ figures len ∷ []
prefix_words bits len h = fields_cut 32 (dots bits) (figures len) (dots_word bits) ∙ ap (λ (l : List (List ℕ)). dots bits ∷ l) (fields_whole 32 (figures len) (figures_word len h))

prefix_back : (bits len : ℕ) → bits < 2 ^ 32 → len < 2 ^ 64 → prefix (fields 32 (dots bits ++ (32 ∷ figures len))) ≡ Some (bits, len)
unfolding prefix both
prefix_back bits len h i = ap prefix (prefix_words bits len i) ∙ rw (dotted_back bits h, decimal_back len i)

to_word : (ys : List ℕ) → fields 32 (codes "to " ++ ys) ≡ codes "to" ∷ fields 32 ys
unfolding fields
to_word ys = refl

route_words : (bits len hop : ℕ) → len < 2 ^ 64 → hop < 2 ^ 64 → fields 32 (dots bits ++ (32 ∷ (figures len ++ (codes " to " ++ figures hop)))) ≡ dots bits ∷ figures len ∷ codes "to" ∷ figures hop ∷ []
route_words bits len hop h i =
    fields_cut 32 (dots bits) (figures len ++ (codes " to " ++ figures hop)) (dots_word bits)
    ∙ ap (λ (l : List (List ℕ)). dots bits ∷ l)
    (fields_cut 32 (figures len) (codes "to " ++ figures hop) (figures_word len h)
    ∙ ap (λ (l : List (List ℕ)). figures len ∷ l)
    (to_word (figures hop) ∙ ap (λ (l : List (List ℕ)). codes "to" ∷ l) (fields_whole 32 (figures hop) (figures_word hop i))))

route_back : (bits len hop : ℕ) → bits < 2 ^ 32 → len < 2 ^ 64 → hop < 2 ^ 64 → put (fields 32 (dots bits ++ (32 ∷ (figures len ++ (codes " to " ++ figures hop))))) ≡ Some (Put bits len hop)
unfolding put both routed
route_back bits len hop h i j = ap put (route_words bits len hop i j) ∙ rw (dotted_back bits h, decimal_back len i, decimal_back hop j)

-- the first word of each command
table_word : (ys : List ℕ) → reads (codes "table " ++ ys) ≡ option_map Asks (option_map Table (only decimal (fields 32 ys)))
unfolding reads ordered fields asked
table_word ys = refl

put_word : (ys : List ℕ) → reads (codes "put " ++ ys) ≡ option_map Asks (put (fields 32 ys))
unfolding reads ordered fields asked
put_word ys = refl

away_word : (ys : List ℕ) → reads (codes "away " ++ ys) ≡ option_map Asks (option_map (λ p. Away p.0 p.1) (prefix (fields 32 ys)))
unfolding reads ordered fields asked
away_word ys = refl

look_word : (ys : List ℕ) → reads (codes "look " ++ ys) ≡ option_map Asks (option_map Look (only dotted (fields 32 ys)))
unfolding reads ordered fields asked
look_word ys = refl

beneath_word : (ys : List ℕ) → reads (codes "beneath " ++ ys) ≡ option_map Asks (option_map (λ p. Beneath p.0 p.1) (prefix (fields 32 ys)))
unfolding reads ordered fields asked
beneath_word ys = refl

nodes_word : reads (codes "nodes") ≡ Some (Asks Nodes)
unfolding reads ordered
nodes_word = refl

pub command_back : CommandRoundTrip
command_back (Table room) h = table_word (figures room) ∙ ap (λ (l : List (List ℕ)). option_map Asks (option_map Table (only decimal l))) (fields_whole 32 (figures room) (figures_word room h)) ∙ ap (λ (o : Option ℕ). option_map Asks (option_map Table o)) (decimal_back room h)
command_back (Put bits len hop) h = put_word (dots bits ++ (codes " " ++ (figures len ++ (codes " to " ++ figures hop)))) ∙ ap (option_map Asks) (route_back bits len hop h.0 h.1 h.2)
command_back (Away bits len) h = away_word (dots bits ++ (codes " " ++ figures len)) ∙ ap (λ (o : Option (ℕ × ℕ)). option_map Asks (option_map (λ p. Away p.0 p.1) o)) (prefix_back bits len h.0 h.1)
command_back (Look address) h = look_word (dots address) ∙ ap (λ (l : List (List ℕ)). option_map Asks (option_map Look (only dotted l))) (fields_whole 32 (dots address) (dots_word address)) ∙ ap (λ (o : Option ℕ). option_map Asks (option_map Look o)) (dotted_back address h)
command_back (Beneath bits len) h = beneath_word (dots bits ++ (codes " " ++ figures len)) ∙ ap (λ (o : Option (ℕ × ℕ)). option_map Asks (option_map (λ p. Beneath p.0 p.1) o)) (prefix_back bits len h.0 h.1)
command_back Nodes h = nodes_word
