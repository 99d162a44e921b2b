use Rattle.shop_words.proofs.Shop.{found-shop, kinds-shop, passes-shop}
use Rattle.shop_words.proofs.words.matches_in.Goals as goal

pub returns-clause-found : goal.returns-clause-found
returns-clause-found g c = found-shop _ _ _ c.in_ok-program.ensures c.try_get_matches_from.ensures.matches

pub returns-clause-taken : goal.returns-clause-taken
returns-clause-taken g c = passes-shop _ _ _ c.in_ok-program.ensures c.try_get_matches_from.ensures.passes

pub returns-clause-kinds : goal.returns-clause-kinds
returns-clause-kinds g c = kinds-shop _ _ _ c.in_ok-program.ensures c.try_get_matches_from.ensures.kinds
