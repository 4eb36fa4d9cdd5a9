-- Replies, and what the specification makes of them, for the readers of `specs/Replies`. Nothing cites these: they show that the definitions say what they mean.
use Rattle.std.proofs.Common.{◌≡◌, [], ◌∷◌, codes, refl}
use Rattle.std.specs.Fmt.{digits as spelt}
use Rattle.prefix.specs.Routes.{route_of}
use Rattle.text.specs.declared.refusals.Refusal.TheVariants.{Prefix}
use Rattle.text.specs.Dots.{dots}
use Rattle.serve.specs.declared.replies.Reply.TheVariants.{Refused, Beneath, Listed}
use Rattle.serve.specs.Replies.{written, lines, route_line}

shown_route : route_line [] (route_of 167837696 16 2) ≡ codes "10.1.0.0 16 to 2\n"
unfolding route_line dots spelt
shown_route = refl

shown_refused : written [] (Refused (Prefix 33)) ≡ codes "refused 1 at 33"
unfolding spelt
shown_refused = refl

shown_count : written [] (Beneath 4 7) ≡ codes "3 beneath"
unfolding spelt lines
shown_count = refl

shown_beneath : written (route_of 167837696 16 2 ∷ []) (Beneath 0 1) ≡ codes "10.1.0.0 16 to 2\n1 beneath"
unfolding spelt lines route_line dots
shown_beneath = refl

shown_list : written (route_of 167837696 16 2 ∷ []) (Listed 1) ≡ codes "put 10.1.0.0 16 to 2\n# 1 routes"
unfolding spelt lines route_line dots
shown_list = refl
