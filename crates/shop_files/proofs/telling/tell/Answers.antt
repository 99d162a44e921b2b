use Rattle.shop_host.specs.lemmas.Runs.{look_both}
use Rattle.shop_files.proofs.telling.tell.Goals as goal

pub returns-in_err-tell_rows-2 : goal.returns-in_err-tell_rows-2
returns-in_err-tell_rows-2 g c = record {
  looked = look_both _ _ _ (look_both _ _ _ c.tell_unwritten.ensures.looked c.tell_rows.ensures.looked)
      c.tell_rows-2.ensures.looked;
}

pub returns-in-Some : goal.returns-in-Some
returns-in-Some g c = record {
  looked = look_both _ _ _
      (look_both _ _ _ (look_both _ _ _ c.tell_unwritten.ensures.looked c.tell_rows.ensures.looked)
      c.tell_rows-2.ensures.looked)
      c.tell_broken.ensures.looked;
}

pub returns-in-None : goal.returns-in-None
returns-in-None g c = record {
  looked = look_both _ _ _ (look_both _ _ _ c.tell_unwritten.ensures.looked c.tell_rows.ensures.looked)
      c.tell_rows-2.ensures.looked;
}
