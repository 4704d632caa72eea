-- What a search shows at present.
use Rattle.ils_face.specs.declared.search.Search.{Ghosts}
use Rattle.ils_face.specs.Views.{View}

-- what the search shows by its rules and its replies
abbrev pub view_of : {S : Type 0} → Ghosts S → S → View
view_of P search = P.shown (P.rules_of search) (P.replies_of search)
