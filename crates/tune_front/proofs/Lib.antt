mod SaidTexts
mod ReadingCauses
