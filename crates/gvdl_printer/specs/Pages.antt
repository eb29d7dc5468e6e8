-- A text that grows by pieces.
use Rattle.std.specs.Prelude.{Bool, List, [], ◌∷◌, ◌++◌}
use Rattle.gvdl_printer.specs.declared.page.Page.{Page}
use Rattle.gvdl_printer.specs.Layout.{Piece, ends_close, laid}

-- whether what comes behind pieces stands close
abbrev pub close_after : Bool → List Piece → Bool
close_after close [] = close
close_after close (x ∷ more) = close_after (ends_close x.token x.tight) more

-- the page with these pieces at its end
unfoldable pub wrote : Page → List Piece → Page
wrote page pieces = record { text = page.text ++ laid page.close pieces; close = close_after page.close pieces }
